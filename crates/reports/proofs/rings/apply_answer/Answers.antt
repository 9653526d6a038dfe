use Rattle.std.proofs.Common.{refl}
use Rattle.reports.specs.Findings.{fault_of}
use Rattle.reports.specs.Report.{told}
use Rattle.reports.proofs.rings.apply_answer.Goals as goal

-- The list is not a ring.
pub returns-in-Err : goal.returns-in-Err
returns-in-Err c =
    told (fault_of c.in-Err.fault) (rw (c.shape.ensures.ids, c.shape.ensures.rounds) at c.in-Err.ensures) refl
