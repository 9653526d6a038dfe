use Rattle.std.proofs.Common.{◌≢◌, ℕ, ◌<◌}
use Rattle.nbhd_check.specs.PatternSearch.{IsPairClear}
use Rattle.nbhd_check.proofs.patterns.PatternSearch.is_second_broken.Given as goal

-- no three windows with one of those so far and this one are forbidden
abbrev pub invariant-loop-first : goal.invariant-loop-first
invariant-loop-first l =
    (first : ℕ) → first < l.first → first ≢ l.second
    → IsPairClear l.self.table.now l.self.problem.now l.self.before.items l.next first l.second
