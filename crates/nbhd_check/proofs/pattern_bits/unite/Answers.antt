use Rattle.std.proofs.Common.{arith}
use Rattle.nbhd_check.proofs.PatternWords.{united}
use Rattle.nbhd_check.proofs.pattern_bits.unite.Goals as goal

pub loop-place-preserved : goal.loop-place-preserved
loop-place-preserved c =
    let l = c.loop-place in
    let new = united c.args.words.now l.words c.args.others.now l.place l.invariant.0 l.invariant.1 l.invariant.2 in
    (new.0, new.1, new.2 (omega (arith, c.loop-place-test.true, l.auto.place-end)))
