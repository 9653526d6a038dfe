use Rattle.win_index.proofs.Numbers.{length-windows}
use Rattle.win_index.proofs.laws.count_of_windows.Goals as goal

pub returns : goal.returns
returns c = length-windows
