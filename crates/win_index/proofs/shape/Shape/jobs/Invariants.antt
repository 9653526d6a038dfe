use Rattle.std.proofs.Common.{◌≡◌, ◌*◌, ◌≤◌, length}
use Rattle.win_index.specs.declared.limits.TheConstants.{MAX_BLOCKS}
use Rattle.win_index.proofs.JobPlaces.{jobs_below}
use Rattle.win_index.proofs.shape.Shape.jobs.Given as goal

abbrev pub invariant-loop-level : goal.invariant-loop-level
invariant-loop-level l =
    record { counted : l.jobs ≡ length (jobs_below l.self.ids l.level); few : l.jobs ≤ MAX_BLOCKS * l.level }
