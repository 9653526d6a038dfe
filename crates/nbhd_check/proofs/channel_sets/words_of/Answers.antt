use Rattle.nbhd_check.proofs.BitSets.{more_more, once_more}
use Rattle.nbhd_check.proofs.channel_sets.words_of.Goals as goal

pub loop-channel-preserved : goal.loop-channel-preserved
loop-channel-preserved c =
    let l = c.loop-channel in (
      once_more l.once c.args.channels.now l.channel-index l.invariant.0,
      more_more l.once l.more c.args.channels.now l.channel-index l.invariant.0 l.invariant.1,
    )
