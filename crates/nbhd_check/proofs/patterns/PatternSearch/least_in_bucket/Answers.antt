use Rattle.std.proofs.Common.{arith}
use Rattle.nbhd_check.proofs.PatternSteps.{free_by_first, firsts_more}
use Rattle.nbhd_check.proofs.patterns.PatternSearch.least_in_bucket.Goals as goal

pub loop-place-preserved : goal.loop-place-preserved
loop-place-preserved c =
    let self' = c.args.self.now in
    firsts_more self'.table.now self'.problem.now self'.before.items c.args.next c.loop-place.place c.args.least c.loop-place.least c.least_at-least.result
    c.loop-place.invariant.0 c.loop-place.invariant.1 c.least_at-least.ensures.less c.least_at-least.ensures.free

pub returns-clause-free : goal.returns-clause-free
returns-clause-free c =
    let self' = c.args.self.now in
    free_by_first self'.table.now self'.problem.now self'.before.items c.args.next c.loop-place.least self'.table_is self'.before_are c.requires
    (λ place number x z lt. c.loop-place.invariant.1 place number x z
    (omega (arith, lt, c.loop-place-test.false, c.windows_per_bucket-place-end.ensures.value)))
