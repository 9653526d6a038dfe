use Rattle.std.proofs.Common.{arith}
use Rattle.win_index.proofs.Unused.{unused_before, unused_few, unused_reached}
use Rattle.win_index.proofs.arrangement.nth_unused.Goals as goal

pub overflow_add-end-in-loop-lacking : goal.overflow_add-end-in-loop-lacking
overflow_add-end-in-loop-lacking c =
    let reached = unused_reached c.args.before.now c.args.ids c.args.place c.loop-lacking.end c.loop-lacking.lacking
    (omega (arith, c.loop-lacking-test.true)) c.loop-lacking.invariant.lacking c.requires.place in
    omega (arith, reached.1, c.ranges.ids.fits)

pub loop-lacking-preserved : goal.loop-lacking-preserved
loop-lacking-preserved c =
    let reached = unused_reached c.args.before.now c.args.ids c.args.place c.loop-lacking.end c.loop-lacking.lacking
    (omega (arith, c.loop-lacking-test.true)) c.loop-lacking.invariant.lacking c.requires.place in
    record {
      some = omega (arith, c.loop-lacking-test.true);
      inside = reached.1;
      before_end = reached.0;
      lacking = grind (arith, unused_few);
    }

pub returns : goal.returns
returns c =
    unused_before c.args.before.now c.args.ids c.args.place c.loop-lacking.end c.loop-lacking.invariant.some
    c.loop-lacking.invariant.inside
    c.loop-lacking.invariant.before_end (omega (arith, c.loop-lacking.invariant.lacking, c.loop-lacking-test.false))
