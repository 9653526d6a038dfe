use Rattle.std.proofs.Common.{◌≡◌, ℕ, ◌+◌, ◌*◌, ◌<◌, length, get_or}
use Rattle.nbhd_check.specs.Masks.{Covers}
use Rattle.nbhd_check.proofs.masks.fill_part.Given as goal

-- the masks of the groups so far cover their channels
abbrev pub invariant-loop-group : goal.invariant-loop-group
invariant-loop-group l =
    (length l.masks ≡ length l.initial.masks)
    × ((group place : ℕ) → group < l.group → place < l.len
    → Covers (get_or l.masks group 0) l.distance (get_or l.entries (group * l.len + place) 0))
