use Rattle.lower_bound.proofs.Windows.{need_channels}
use Rattle.lower_bound.proofs.laws.windows_need_channels.Goals as goal

pub returns : goal.returns
returns c = need_channels c.tuples_are_rings.ensures
