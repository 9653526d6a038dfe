use Rattle.std.proofs.Common.{◌≡◌, ◌+◌, length}
use Rattle.win_index.proofs.JobPlaces.{jobs_below}
use Rattle.win_index.proofs.shape.Shape.job.Given as goal

abbrev pub invariant-loop-level : goal.invariant-loop-level
invariant-loop-level l = l.number ≡ length (jobs_below l.self.ids l.level) + l.block
