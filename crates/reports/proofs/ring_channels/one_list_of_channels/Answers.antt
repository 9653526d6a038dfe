use Rattle.reports.proofs.TableLines.{one_list}
use Rattle.reports.proofs.ring_channels.one_list_of_channels.Goals as goal

pub returns : goal.returns
returns c = one_list
