-- Exit statuses after faults of the engine.
use Rattle.std.specs.Prelude.{ℕ}
use Rattle.devices.specs.declared.fault.EngineFault.{EngineFault}
use Rattle.devices.specs.declared.fault.EngineFault.TheVariants.{Read, Write}

-- the exit status after a fault of the engine: 5 after a failed read or write, else 6
abbrev pub engine_fault_code : EngineFault → ℕ
engine_fault_code Read = 5
engine_fault_code Write = 5
engine_fault_code _ = 6
