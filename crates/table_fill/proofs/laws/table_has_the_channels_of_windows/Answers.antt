use Rattle.table_fill.proofs.Programs.{channels_of_windows}
use Rattle.table_fill.proofs.laws.table_has_the_channels_of_windows.Goals as goal

pub returns : goal.returns
returns c = channels_of_windows
