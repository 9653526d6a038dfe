use Rattle.std.proofs.Common.{◌≢◌, ℕ, arith}
use Rattle.nbhd_check.specs.PatternSearch.{IsPairClear}
use Rattle.nbhd_check.proofs.PatternSteps.{one_more}
use Rattle.nbhd_check.proofs.patterns.PatternSearch.is_broken.Goals.{else-second-first-via-then-second-first+else-is_pair_broken}
use Rattle.nbhd_check.proofs.patterns.PatternSearch.is_broken.Goals.{else-second-first-via-else-second-first}
use Rattle.nbhd_check.proofs.patterns.PatternSearch.is_broken.Goals as goal

pub loop-second-preserved : goal.loop-second-preserved
loop-second-preserved c =
    let self' = c.args.self.now in
    let Clear : ℕ → Type 0 = λ second. c.args.first ≢ second
    → IsPairClear self'.table.now self'.problem.now self'.before.items c.args.next c.args.first second in
    one_more Clear c.loop-second.second c.loop-second.invariant
    (elim c.else-second-first.branch [
      | else-second-first-via-then-second-first+else-is_pair_broken w ↦ λ _. w.if-is_pair_broken.ensures
      | else-second-first-via-else-second-first w ↦ λ other. absurd (other (omega (arith, w.if-second-first.false)))
    ])

pub returns : goal.returns
returns c second lt = c.loop-second.invariant second
    (omega (arith, lt, c.loop-second-test.false, c.windows_per_bucket-second-end.ensures.value))
