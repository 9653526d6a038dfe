use Rattle.unroll.specs.States.{SameSize}
use Rattle.conformance.proofs.operations.write_states.Given as goal

abbrev pub invariant-loop-i : goal.invariant-loop-i
invariant-loop-i l = SameSize l.fn.nodes l.nodes
