use Rattle.std.proofs.Common.{refl}
use Rattle.reports.specs.Findings.{fault_of}
use Rattle.reports.specs.Report.{told}
use Rattle.plan_print.proofs.answer.plan_answer.Goals as goal

-- The list is not a ring.
pub returns-in-Err-clause-answer : goal.returns-in-Err-clause-answer
returns-in-Err-clause-answer g c = told (fault_of c.in-Err.fault) c.in-Err.ensures refl
