use Rattle.std.proofs.Common.{◌≡◌, ℕ, ◌<◌, Some, slice_get}
use Rattle.ring_problems.specs.declared.pattern.Pattern.{Pattern}
use Rattle.ring_problems.specs.Patterns.{Fits}
use Rattle.ring_problems.proofs.pairs.may_begin.Given as goal

-- no pattern so far begins so
abbrev pub invariant-loop-pattern : goal.invariant-loop-pattern
invariant-loop-pattern l =
    (n : ℕ) (p : Pattern) → n < l.pattern-index → slice_get l.problem n ≡ Some p → Fits p.first l.first
    → Fits p.second l.second → ⊥
