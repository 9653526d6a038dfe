use Rattle.std.proofs.Common.{take}
use Rattle.win_index.specs.Windows.{IsWindow}
use Rattle.win_index.proofs.arrangement.is_window.Given as goal

abbrev pub invariant-loop-place : goal.invariant-loop-place
invariant-loop-place l = IsWindow l.place l.ids (take l.place l.list)
