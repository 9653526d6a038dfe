use Rattle.std.proofs.Common.{◌≡◌, ℕ, ◌+◌, ◌*◌, ◌%◌, ◌<◌, length, slice_index}
use Rattle.nbhd_check.specs.Masks.{HasBit, HasBitsOf}
use Rattle.nbhd_check.proofs.pattern_bits.thirds_after_each.Given as goal

-- what is forbidden after a first channel so far
abbrev pub invariant-loop-channel : goal.invariant-loop-channel
invariant-loop-channel l =
    (length l.thirds ≡ 64)
    × ((a b : ℕ) → a % 64 < l.channel → b % 64 < l.limit → HasBit l.first a
    → HasBitsOf (slice_index l.thirds (b % 64)) (slice_index l.bits (a % 64 * 64 + b % 64)))
