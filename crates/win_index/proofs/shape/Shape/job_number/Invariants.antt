use Rattle.std.proofs.Common.{◌≡◌, ◌+◌, ◌*◌, ◌≤◌, length}
use Rattle.win_index.specs.declared.limits.TheConstants.{MAX_BLOCKS}
use Rattle.win_index.proofs.JobPlaces.{jobs_below}
use Rattle.win_index.proofs.shape.Shape.job_number.Given as goal

abbrev pub invariant-loop-lower : goal.invariant-loop-lower
invariant-loop-lower l =
    record {
      counted : l.number ≡ length (jobs_below l.self.ids l.lower) + l.block;
      few : l.number ≤ MAX_BLOCKS * l.lower + l.block;
    }
