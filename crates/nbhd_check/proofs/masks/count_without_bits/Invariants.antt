use Rattle.std.proofs.Common.{ℕ, ◌<◌, get_or}
use Rattle.nbhd_check.specs.Masks.{HasBit}
use Rattle.nbhd_check.proofs.masks.count_without_bits.Given as goal

-- the channels so far lack their bits
abbrev pub invariant-loop-place : goal.invariant-loop-place
invariant-loop-place l = (i : ℕ) → i < l.place → ¬ HasBit (get_or l.masks i 0) (get_or l.channels i 0)
