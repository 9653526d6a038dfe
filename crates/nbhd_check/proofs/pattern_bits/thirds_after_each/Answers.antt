use Rattle.std.proofs.Common.{arith}
use Rattle.nbhd_check.proofs.PatternWords.{thirds_more}
use Rattle.nbhd_check.proofs.pattern_bits.thirds_after_each.Goals as goal

pub loop-channel-preserved : goal.loop-channel-preserved
loop-channel-preserved c =
    let l = c.loop-channel in
    thirds_more c.args.bits.now l.thirds c.unite_if.new.words c.args.first c.args.limit l.channel _ c.requires.limit c.requires.room c.loop-channel-test.true
    (omega arith) l.invariant.0 l.invariant.1 c.unite_if.ensures.length c.unite_if.ensures.old c.unite_if.ensures.other
