use Rattle.std.proofs.Common.{refl}
use Rattle.reports.specs.Findings.{fault_of}
use Rattle.reports.specs.Report.{told, answered}
use Rattle.reports.proofs.texts.print_report.Goals as goal

pub returns-in-Ok : goal.returns-in-Ok
returns-in-Ok c = answered (c.in-Ok.program, rw c.in-Ok.is at c.in_ok-program.ensures, refl)

pub returns-in-Err : goal.returns-in-Err
returns-in-Err c = told (fault_of c.in-Err.fault) (rw c.in-Err.is at c.in_ok-program.ensures) refl
