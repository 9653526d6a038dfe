use Rattle.std.proofs.Common.{◌≡◌, ℕ, ◌%◌, ◌<◌, Some, length, slice_index}
use Rattle.ring_problems.specs.Patterns.{IsForbidden}
use Rattle.nbhd_check.specs.Masks.{HasBit}
use Rattle.nbhd_check.proofs.pattern_bits.fill_row.Given as goal

-- the words so far have their bits
abbrev pub invariant-loop-second : goal.invariant-loop-second
invariant-loop-second l =
    (length l.row ≡ 64)
    × ((a b c : ℕ) → a % 64 ≡ l.first → b % 64 < l.second → IsForbidden l.problem (Some a) (Some b) (Some c)
    → HasBit (slice_index l.row (b % 64)) c)
