use Rattle.std.proofs.Common.{◌≡◌, ℕ, ◌+◌, ◌*◌, ◌<◌, length, get_or}
use Rattle.nbhd_check.specs.Masks.{HasBitsOf}
use Rattle.nbhd_check.proofs.masks.join_masks.Given as goal

-- the masks that are joined so far have the bits of theirs
abbrev pub invariant-loop-group : goal.invariant-loop-group
invariant-loop-group l =
    (length l.joined ≡ length l.initial.joined)
    × ((group place : ℕ) → group < l.group → place < l.count
    → HasBitsOf (get_or l.joined group 0) (get_or l.masks (group * l.count + place) 0))
