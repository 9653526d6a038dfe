-- The exit status of the process after a report, and after a result of the engine.
use Rattle.std.specs.Prelude.{ℕ, Result, Ok, Err}
use Rattle.reports.specs.declared.status.Status.{Status}
use Rattle.reports.specs.declared.status.Status.TheVariants.{Done, No, Words, Refused, RingRefused, FormulaRefused}
use Rattle.devices.specs.declared.fault.EngineFault.{EngineFault}
use Rattle.devices.specs.FaultCodes.{engine_fault_code}

-- after a report
abbrev pub exit_code : Status → ℕ
exit_code Done = 0
exit_code No = 1
exit_code Words = 2
exit_code Refused = 3
exit_code RingRefused = 4
exit_code FormulaRefused = 7

-- after a result of the engine
abbrev pub answer_code : Result Status EngineFault → ℕ
answer_code (Ok status) = exit_code status
answer_code (Err fault) = engine_fault_code fault
