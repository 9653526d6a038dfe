use Rattle.std.proofs.Common.{ℕ, ◌<◌}
use Rattle.nbhd_check.specs.PatternSearch.{IsNoMiddle}
use Rattle.nbhd_check.proofs.problem_least.single_windows.Given as goal

-- no window so far is forbidden between two others
abbrev pub invariant-loop-number : goal.invariant-loop-number
invariant-loop-number l = (number : ℕ) → number < l.number → IsNoMiddle l.table l.tuples.problem.now number
