use Rattle.unroll.specs.Room.{HasRoomFor}
use Rattle.unroll.specs.States.{SameSize}
use Rattle.conformance.proofs.operations.do_each_round.Given as goal

abbrev pub invariant-loop-round : goal.invariant-loop-round
invariant-loop-round l = record {
  room : HasRoomFor l.work l.code l.nodes;
  size : SameSize l.nodes l.out;
}
