use Rattle.std.proofs.Common.{ℕ, ◌<◌}
use Rattle.nbhd_check.specs.PatternSearch.{IsSecondClear}
use Rattle.nbhd_check.proofs.patterns.PatternSearch.may_be_broken.Given as goal

-- no three windows with one of those so far in the middle are forbidden
abbrev pub invariant-loop-place : goal.invariant-loop-place
invariant-loop-place l =
    (place : ℕ) → place < l.place
    → IsSecondClear l.self.table.now l.self.problem.now l.self.before.items l.next place
