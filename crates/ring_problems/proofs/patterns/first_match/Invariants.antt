use Rattle.std.proofs.Common.{◌≡◌, ℕ, ◌<◌, Some, slice_get}
use Rattle.ring_problems.specs.declared.pattern.Pattern.{Pattern}
use Rattle.ring_problems.specs.Patterns.{Matches}
use Rattle.ring_problems.proofs.patterns.first_match.Given as goal

-- no pattern so far matches
abbrev pub invariant-loop-pattern : goal.invariant-loop-pattern
invariant-loop-pattern l =
    (n : ℕ) (p : Pattern) → n < l.pattern-index → slice_get l.problem n ≡ Some p → ¬ Matches p l.first l.second l.third
