use Rattle.std.proofs.Common.{◌≡◌, take, slice_get, Some}
use Rattle.win_index.specs.Windows.{windows}
use Rattle.win_index.proofs.arrangement.Arrangements.number.Given as goal

abbrev pub invariant-loop-place : goal.invariant-loop-place
invariant-loop-place l = slice_get (windows l.place l.ids) l.number ≡ Some (take l.place l.list)
