use Rattle.std.proofs.Common.{◌≡◌, length}
use Rattle.win_index.specs.Windows.{windows}
use Rattle.win_index.proofs.arrangement.Arrangements.count.Given as goal

abbrev pub invariant-loop-place : goal.invariant-loop-place
invariant-loop-place l = l.count ≡ length (windows l.place l.ids)
