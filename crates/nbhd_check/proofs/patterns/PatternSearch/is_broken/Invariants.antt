use Rattle.std.proofs.Common.{◌≢◌, ℕ, ◌<◌}
use Rattle.nbhd_check.specs.PatternSearch.{IsPairClear}
use Rattle.nbhd_check.proofs.patterns.PatternSearch.is_broken.Given as goal

-- no three windows with this one and one of those so far are forbidden
abbrev pub invariant-loop-second : goal.invariant-loop-second
invariant-loop-second l =
    (second : ℕ) → second < l.second → l.first ≢ second
    → IsPairClear l.self.table.now l.self.problem.now l.self.before.items l.next l.first second
