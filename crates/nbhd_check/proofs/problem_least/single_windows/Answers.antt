use Rattle.std.proofs.Common.{ℕ, ◌≡◌, ◌%◌, ◌<◌, min, subst, sym, arith}
use Rattle.std.proofs.Math.Nat.{mod-le, mod-lt}
use Rattle.nbhd_check.specs.PatternBits.{AreBits}
use Rattle.nbhd_check.specs.PatternSearch.{IsNoMiddle}
use Rattle.nbhd_check.proofs.PatternSteps.{one_more}
use Rattle.nbhd_check.proofs.SingleSteps.{free_by_middles}
use Rattle.nbhd_check.proofs.problem_least.single_windows.Goals as goal

-- remainders modulo 64 are below the limit
below_limit : (channel channels limit : ℕ) → limit ≡ min channels 64 → channel < channels → channel % 64 < limit
below_limit channel channels limit is lt =
    let low : channel % 64 < 64 = mod-lt channel (omega arith) in
    omega (arith, is, lt, low, mod-le channel 64)

pub loop-number-preserved : goal.loop-number-preserved
loop-number-preserved c =
    let t = c.args.tuples.windows.now in
    let problem = c.args.tuples.problem.now in
    let bits = subst (AreBits problem c.min-limit.result) (sym c.deref.ensures.value) c.in-Ok.ensures in
    one_more (IsNoMiddle t problem) c.loop-number.number c.loop-number.invariant
    (c.if-may_be_middle.ensures problem bits
    (λ channel lt. below_limit channel c.channels.result c.min-limit.result c.min-limit.ensures (omega (arith, lt, c.channels.ensures.value))))

pub returns : goal.returns
returns c number window from below item =
    let t = c.args.tuples.windows.now in
    free_by_middles t c.args.tuples.problem.now window c.channels.ensures.table.size
    (λ n lt. c.loop-number.invariant n (omega (arith, lt, c.loop-number-test.false, c.window_count-number-end.ensures.value)))
