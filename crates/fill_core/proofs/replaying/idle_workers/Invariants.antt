use Rattle.std.proofs.Common.{◌≡◌, map, replicate}
use Rattle.fill_core.specs.FillMachine.{idle}
use Rattle.fill_core.specs.FillStates.{worker_of}
use Rattle.fill_core.proofs.replaying.idle_workers.Given as goal

abbrev pub invariant-loop-worker : goal.invariant-loop-worker
invariant-loop-worker l = map worker_of l.hands.items ≡ replicate l._worker (idle l.jobs)
