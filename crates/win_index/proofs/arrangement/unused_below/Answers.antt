use Rattle.std.proofs.Common.{arith}
use Rattle.win_index.proofs.Unused.{unused_below}
use Rattle.win_index.proofs.arrangement.unused_below.Goals as goal

pub overflow_sub-result : goal.overflow_sub-result
overflow_sub-result c = omega (arith, unused_below c.args.before.now c.args.x c.requires)
