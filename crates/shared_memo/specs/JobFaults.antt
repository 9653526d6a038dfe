-- The faults of workers.
use Rattle.round_eval.specs.declared.fault.WorkFault.{WorkFault}
use Rattle.round_eval.specs.declared.fault.WorkFault.TheVariants as work
use Rattle.shared_memo.specs.declared.pool.job_fault.JobFault.{JobFault}
use Rattle.shared_memo.specs.declared.pool.job_fault.JobFault.TheVariants.{OutOfMemory, Stranger}

-- the fault without what the worker knows
abbrev pub work_fault_of : {K : Type 0} → JobFault K → WorkFault
work_fault_of OutOfMemory = work.OutOfMemory
work_fault_of (Stranger known) = work.Stranger

-- if the worker met a stranger, this holds of what it knows
abbrev pub OfStranger : {K : Type 0} → (K → Type 0) → JobFault K → Type 0
OfStranger Holds OutOfMemory = Unit {0}
OfStranger Holds (Stranger known) = Holds known
