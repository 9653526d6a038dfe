use Rattle.std.proofs.Common.{ℕ, ◌<◌, get_or}
use Rattle.nbhd_check.specs.Masks.{HasBitsOf}
use Rattle.nbhd_check.proofs.masks.union_of.Given as goal

-- the union has the bits of the masks so far
abbrev pub invariant-loop-mask : goal.invariant-loop-mask
invariant-loop-mask l = (place : ℕ) → place < l.mask-index → HasBitsOf l.union (get_or l.masks place 0)
