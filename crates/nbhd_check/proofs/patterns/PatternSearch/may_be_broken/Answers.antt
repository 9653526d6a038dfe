use Rattle.std.proofs.Common.{ℕ, arith}
use Rattle.nbhd_check.specs.PatternSearch.{IsSecondClear}
use Rattle.nbhd_check.proofs.PatternSteps.{one_more}
use Rattle.nbhd_check.proofs.patterns.PatternSearch.may_be_broken.Goals.{else-may_be_broken_at-via-then-may_be_broken_at+else-is_second_broken}
use Rattle.nbhd_check.proofs.patterns.PatternSearch.may_be_broken.Goals.{else-may_be_broken_at-via-else-may_be_broken_at}
use Rattle.nbhd_check.proofs.patterns.PatternSearch.may_be_broken.Goals as goal

pub loop-place-preserved : goal.loop-place-preserved
loop-place-preserved c =
    let self' = c.args.self.now in
    one_more (IsSecondClear self'.table.now self'.problem.now self'.before.items c.args.next) c.loop-place.place c.loop-place.invariant
    (elim c.else-may_be_broken_at.branch [
      | else-may_be_broken_at-via-then-may_be_broken_at+else-is_second_broken w ↦ w.if-is_second_broken.ensures
      | else-may_be_broken_at-via-else-may_be_broken_at w ↦ w.if-may_be_broken_at.ensures
    ])

pub returns : goal.returns
returns c place lt = c.loop-place.invariant place
    (omega (arith, lt, c.loop-place-test.false, c.windows_per_bucket-each.ensures.value))
