-- The engine's fault for a fault of a filling or of a run. No public contract cites this file.
use Rattle.std.specs.Prelude.{Option, None, Some}
use Rattle.devices.specs.declared.fault.EngineFault.{EngineFault}
use Rattle.devices.specs.declared.fault.EngineFault.TheVariants as engine
use Rattle.ring_exec.specs.declared.fault.RunFault.{RunFault}
use Rattle.ring_exec.specs.declared.fault.RunFault.TheVariants as run
use Rattle.table_fill.specs.declared.fault.FillFault.{FillFault}
use Rattle.table_fill.specs.declared.fault.FillFault.TheVariants as fill

-- None if the number of segments is out of range, which the report covers
abbrev pub reported_run_fault : RunFault → Option EngineFault
reported_run_fault run.SegmentsOutOfRange = None
reported_run_fault run.OutOfMemory = Some engine.Memory
reported_run_fault run.Stranger = Some engine.Stranger
reported_run_fault run.NoThread = Some engine.Thread

-- None if the number of workers is out of range, which that of a task is not
abbrev pub reported_fill_fault : FillFault → Option EngineFault
reported_fill_fault fill.WorkersOutOfRange = None
reported_fill_fault fill.OutOfMemory = Some engine.Memory
reported_fill_fault fill.Stranger = Some engine.Stranger
reported_fill_fault fill.NoThread = Some engine.Thread
