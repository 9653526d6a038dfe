-- The fault that takes precedence, and the one that the caller gets.
use Rattle.std.specs.Prelude.{Option, None, Some}
use Rattle.round_eval.specs.declared.fault.WorkFault.TheVariants as work
use Rattle.ring_exec.specs.declared.fault.ThreadFault.{ThreadFault}
use Rattle.ring_exec.specs.declared.fault.ThreadFault.TheVariants.{Work, NoThread}
use Rattle.ring_exec.specs.declared.fault.RunFault.{RunFault}
use Rattle.ring_exec.specs.declared.fault.RunFault.TheVariants as run

-- the fault that takes precedence after one more, of a segment before those so far: a refused start stays
abbrev pub blamed : Option ThreadFault → ThreadFault → ThreadFault
blamed None fault = fault
blamed (Some (Work before)) fault = fault
blamed (Some NoThread) fault = NoThread

-- the fault that the caller gets
abbrev pub run_fault_of : ThreadFault → RunFault
run_fault_of (Work work.OutOfMemory) = run.OutOfMemory
run_fault_of (Work work.Stranger) = run.Stranger
run_fault_of NoThread = run.NoThread
