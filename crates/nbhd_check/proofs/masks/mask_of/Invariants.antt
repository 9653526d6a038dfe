use Rattle.std.proofs.Common.{ℕ, ◌<◌, get_or}
use Rattle.nbhd_check.specs.Masks.{Covers}
use Rattle.nbhd_check.proofs.masks.mask_of.Given as goal

-- the mask covers the channels so far
abbrev pub invariant-loop-channel : goal.invariant-loop-channel
invariant-loop-channel l = (place : ℕ) → place < l.channel-index → Covers l.mask l.distance (get_or l.channels place 0)
