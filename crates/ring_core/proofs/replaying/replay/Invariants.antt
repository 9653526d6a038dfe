use Rattle.std.proofs.Common.{take}
use Rattle.ring_core.specs.Machine.{Runs, opening}
use Rattle.ring_core.proofs.replaying.replay.Given as goal

abbrev pub invariant-loop-event : goal.invariant-loop-event
invariant-loop-event l = Runs (opening l.plan l.ring l.segments) (take l.event-index l.events) l.world
