use Rattle.std.proofs.Common.{◌≡◌, ◌-◌, length}
use Rattle.ring_exec.specs.Seats.{AreSeatsOf}
use Rattle.ring_exec.proofs.runner.run_rounds.Given as goal

-- it is the same segment, and has put in each round that it has done
abbrev pub invariant-loop-segment : goal.invariant-loop-segment
invariant-loop-segment g l = record {
  same : l.segment ≡ record l.fn.segment { round = l.segment.round };
  seats : AreSeatsOf l.segment l.left.seat l.right.seat;
}

-- the rounds that are left
abbrev pub decreases-loop-segment : goal.decreases-loop-segment
decreases-loop-segment g l = length l.segment.plan.program.steps - l.segment.round
