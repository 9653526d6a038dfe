use Rattle.std.proofs.Common.{refl}
use Rattle.reports.specs.Findings.{fault_of}
use Rattle.reports.specs.Report.{told}
use Rattle.reports.proofs.formulas.formula_report.Goals as goal

pub returns-clause-report : goal.returns-clause-report
returns-clause-report c = told (fault_of c.in-Err.fault) (rw c.in-Err.is at c.in_ok-formula.ensures.formula) refl
