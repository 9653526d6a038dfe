use Rattle.std.proofs.Common.{arith}
use Rattle.ring_problems.proofs.Thirds.{ends_more}
use Rattle.ring_problems.proofs.pairs.ProblemTuples+Table.may_end.Goals as goal

pub loop-place-preserved : goal.loop-place-preserved
loop-place-preserved c =
    ends_more c.args.self.windows.now c.args.self.problem.now c.args.first c.args.second c.args.thirds.first c.loop-place.place
    c.args.thirds.gap c.loop-place.invariant c.if-may_end_at.ensures

pub returns : goal.returns
returns c place lt = c.loop-place.invariant place (omega (arith, lt, c.loop-place-test.false))
