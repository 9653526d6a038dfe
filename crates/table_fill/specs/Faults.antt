-- The fault of a compilation for what its workers met.
use Rattle.round_eval.specs.declared.fault.WorkFault.{WorkFault}
use Rattle.round_eval.specs.declared.fault.WorkFault.TheVariants as work
use Rattle.shared_memo.specs.declared.pool.job_fault.StartFault.{StartFault}
use Rattle.shared_memo.specs.declared.pool.job_fault.StartFault.TheVariants as start
use Rattle.table_fill.specs.declared.fault.FillFault.{FillFault}
use Rattle.table_fill.specs.declared.fault.FillFault.TheVariants as fill

-- the fault that the caller gets if workers were not all started
abbrev pub fault_of_start : StartFault → FillFault
fault_of_start start.OutOfMemory = fill.OutOfMemory
fault_of_start start.NoThread = fill.NoThread

-- the fault that the caller gets for that of a worker
abbrev pub fault_of_work : WorkFault → FillFault
fault_of_work work.OutOfMemory = fill.OutOfMemory
fault_of_work work.Stranger = fill.Stranger
