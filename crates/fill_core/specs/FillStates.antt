-- The state of the machine from the fields of the code.
use Rattle.std.specs.Prelude.{map}
use Rattle.fill_core.specs.declared.state.Hand.{Hand}
use Rattle.fill_core.specs.declared.state.FillState.{FillState}
use Rattle.fill_core.specs.FillMachine.{Machine, Worker}

-- the worker of these fields
abbrev pub worker_of : Hand → Worker
worker_of h = record { hand = h.job; stopped = h.stopped; knows = h.knows.items }

-- the machine of these fields
abbrev pub machine_of : FillState → Machine
machine_of w = record {
  plan = w.plan.now;
  cells = w.cells.items;
  next = w.next;
  workers = map worker_of w.workers.items;
}
