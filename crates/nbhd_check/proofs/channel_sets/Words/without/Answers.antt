use Rattle.nbhd_check.proofs.BitSets.{has_without}
use Rattle.nbhd_check.proofs.channel_sets.Words.without.Goals as goal

pub returns : goal.returns
returns c list gap place are in_gap is within other =
    has_without list c.args.self c.args.channel gap place are in_gap is within other
