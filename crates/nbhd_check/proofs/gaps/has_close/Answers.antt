use Rattle.std.proofs.Common.{arith}
use Rattle.nbhd_check.proofs.gaps.has_close.Goals as goal

pub returns : goal.returns
returns c = (
  λ found. let own = c.loop-other.invariant.0 found in
      (own.0, omega (arith, own.1, c.loop-other.auto.other-index-end), own.2),
  λ has. c.loop-other.invariant.1 (has.0, omega (arith, has.1, c.loop-other-test.false), has.2),
)
