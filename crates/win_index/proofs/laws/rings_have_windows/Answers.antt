use Rattle.win_index.proofs.Arcs.{around_window}
use Rattle.win_index.proofs.laws.rings_have_windows.Goals as goal

pub returns : goal.returns
returns c = around_window
