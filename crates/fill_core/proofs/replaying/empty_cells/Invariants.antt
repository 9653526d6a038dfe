use Rattle.std.proofs.Common.{◌≡◌, None, replicate}
use Rattle.fill_core.proofs.replaying.empty_cells.Given as goal

abbrev pub invariant-loop-job : goal.invariant-loop-job
invariant-loop-job l = l.cells.items ≡ replicate l._job None
