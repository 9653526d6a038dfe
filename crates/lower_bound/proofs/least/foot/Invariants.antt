use Rattle.std.proofs.Common.{◌*◌}
use Rattle.lower_bound.proofs.Feet.{IsFootAfter}
use Rattle.lower_bound.proofs.least.foot.Given as goal

abbrev pub invariant-loop-round : goal.invariant-loop-round
invariant-loop-round l = IsFootAfter l.top (2 * l._round) l.foot
