use Rattle.std.proofs.Common.{take}
use Rattle.fill_core.specs.FillMachine.{opening, Runs}
use Rattle.fill_core.specs.FillStates.{machine_of}
use Rattle.fill_core.proofs.replaying.run.Given as goal

abbrev pub invariant-loop-event : goal.invariant-loop-event
invariant-loop-event l = Runs (opening l.plan l.workers) (take l.event-index l.events) (machine_of l.world)
