use Rattle.std.proofs.Common.{ℕ, ◌+◌, ◌*◌, ◌%◌, ◌<◌, slice_index}
use Rattle.nbhd_check.specs.Masks.{HasBit, HasBitsOf}
use Rattle.nbhd_check.proofs.pattern_bits.thirds_after.Given as goal

-- what is forbidden after a first channel so far
abbrev pub invariant-loop-channel : goal.invariant-loop-channel
invariant-loop-channel l =
    (a : ℕ) → a % 64 < l.channel → HasBit l.first a
    → HasBitsOf l.thirds (slice_index l.bits (a % 64 * 64 + l.second % 64))
