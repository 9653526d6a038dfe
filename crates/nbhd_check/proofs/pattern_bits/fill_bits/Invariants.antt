use Rattle.std.proofs.Common.{◌≡◌, ℕ, ◌*◌, ◌%◌, ◌<◌, Some, length, slice_index}
use Rattle.ring_problems.specs.Patterns.{IsForbidden}
use Rattle.nbhd_check.specs.Masks.{HasBit}
use Rattle.nbhd_check.specs.PatternBits.{cell_of}
use Rattle.nbhd_check.proofs.pattern_bits.fill_bits.Given as goal

-- the words of the rows so far have their bits
abbrev pub invariant-loop-first : goal.invariant-loop-first
invariant-loop-first l =
    (length l.bits ≡ 64 * 64)
    × ((a b c : ℕ) → a % 64 < l.first → b % 64 < l.limit → IsForbidden l.problem (Some a) (Some b) (Some c)
    → HasBit (slice_index l.bits (cell_of a b)) c)
