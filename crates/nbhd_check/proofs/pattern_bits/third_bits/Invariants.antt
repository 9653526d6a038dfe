use Rattle.std.proofs.Common.{◌≡◌, ℕ, ◌%◌, ◌<◌, Some, slice_get}
use Rattle.ring_problems.specs.declared.pattern.Pattern.{Pattern}
use Rattle.ring_problems.specs.Patterns.{Matches}
use Rattle.nbhd_check.specs.Masks.{HasBit}
use Rattle.nbhd_check.proofs.pattern_bits.third_bits.Given as goal

-- the bits of what the patterns so far forbid
abbrev pub invariant-loop-pattern : goal.invariant-loop-pattern
invariant-loop-pattern l =
    (n a b c : ℕ) (p : Pattern) → n < l.pattern-index → slice_get l.problem n ≡ Some p → a % 64 ≡ l.first
    → b % 64 ≡ l.second
    → Matches p (Some a) (Some b) (Some c) → HasBit l.bits c
