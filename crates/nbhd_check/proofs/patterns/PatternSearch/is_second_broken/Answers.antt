use Rattle.std.proofs.Common.{◌≢◌, ℕ, arith}
use Rattle.nbhd_check.specs.PatternSearch.{IsPairClear}
use Rattle.nbhd_check.proofs.PatternSteps.{one_more}
use Rattle.nbhd_check.proofs.patterns.PatternSearch.is_second_broken.Goals.{else-first-second-via-then-first-second+else-is_pair_broken}
use Rattle.nbhd_check.proofs.patterns.PatternSearch.is_second_broken.Goals.{else-first-second-via-else-first-second}
use Rattle.nbhd_check.proofs.patterns.PatternSearch.is_second_broken.Goals as goal

pub loop-first-preserved : goal.loop-first-preserved
loop-first-preserved c =
    let self' = c.args.self.now in
    let Clear : ℕ → Type 0 = λ first. first ≢ c.args.second
    → IsPairClear self'.table.now self'.problem.now self'.before.items c.args.next first c.args.second in
    one_more Clear c.loop-first.first c.loop-first.invariant
    (elim c.else-first-second.branch [
      | else-first-second-via-then-first-second+else-is_pair_broken w ↦ λ _. w.if-is_pair_broken.ensures
      | else-first-second-via-else-first-second w ↦ λ other. absurd (other (omega (arith, w.if-first-second.false)))
    ])

pub returns : goal.returns
returns c first lt = c.loop-first.invariant first
    (omega (arith, lt, c.loop-first-test.false, c.windows_per_bucket-first-end.ensures.value))
