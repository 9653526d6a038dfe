use Rattle.std.proofs.Common.{arith}
use Rattle.lower_bound.proofs.Feet.{exponent_is}
use Rattle.lower_bound.proofs.least.exponent.Goals as goal

pub returns-else-x-lt2 : goal.returns-else-x-lt2
returns-else-x-lt2 c n =
    exponent_is c.args.x c.ilog2.result n (omega (arith, c.if-x-lt2.false)) c.ilog2.ensures.power_le c.ilog2.ensures.next_power_gt
