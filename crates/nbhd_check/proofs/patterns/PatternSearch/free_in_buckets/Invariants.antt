use Rattle.std.proofs.Common.{ℕ, ◌<◌, ◌≤◌}
use Rattle.nbhd_check.specs.PatternSearch.{IsFreeBefore}
use Rattle.nbhd_check.proofs.patterns.PatternSearch.free_in_buckets.Given as goal

-- the buckets so far have no such window
abbrev pub invariant-loop-bucket : goal.invariant-loop-bucket
invariant-loop-bucket l = (bucket : ℕ) → l.low ≤ bucket → bucket < l.bucket
    → IsFreeBefore l.self.table.now l.self.problem.now l.least bucket
