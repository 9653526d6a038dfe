use Rattle.reports.proofs.TableLines.{has_channel}
use Rattle.reports.proofs.ring_channels.tables_have_channels.Goals as goal

pub returns : goal.returns
returns c = has_channel c.rings_have_windows.ensures c.windows_have_numbers.ensures
