use Rattle.win_index.specs.RingFaults.{HasNoFaultBefore}
use Rattle.win_index.proofs.ring.first_fault.Given as goal

abbrev pub invariant-loop-place : goal.invariant-loop-place
invariant-loop-place l = HasNoFaultBefore l.place l.shape.ids l.ids
