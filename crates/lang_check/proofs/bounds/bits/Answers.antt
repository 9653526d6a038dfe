use Rattle.std.proofs.Common.{arith}
use Rattle.lang_check.proofs.Bits.{leading_zeros-bits}
use Rattle.lang_check.proofs.bounds.bits.Goals as goal

pub returns-clause-value : goal.returns-clause-value
returns-clause-value c = let all = leading_zeros-bits c.args.x c.ranges.x.fits in omega arith
