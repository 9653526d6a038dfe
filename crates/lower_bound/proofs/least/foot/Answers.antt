use Rattle.std.proofs.Common.{◌≡◌, arith}
use Rattle.lower_bound.proofs.Feet.{foot_more, foot_all}
use Rattle.lower_bound.proofs.least.foot.Goals as goal

pub loop-round-preserved : goal.loop-round-preserved
loop-round-preserved c =
    foot_more c.args.top c.loop-round._round c.loop-round.foot c.exponent.result c.exponent-foot.result c.loop-round.invariant
    c.exponent.ensures c.exponent-foot.ensures

pub returns : goal.returns
returns c =
    let end : c.loop-round._round ≡ c.args.rounds =
    omega (arith, c.loop-round-test.false, c.loop-round.auto._round-end) in
    rw end at (foot_all c.args.top c.loop-round._round c.loop-round.foot c.loop-round.invariant)
