use Rattle.std.proofs.Common.{length, refl, rules}
use Rattle.reports.specs.Findings.{fault_of}
use Rattle.reports.specs.Report.{IsNoRing, told}
use Rattle.reports.proofs.rings.trace_answer.Goals as goal

-- The list is not a ring.
pub returns-in-Err : goal.returns-in-Err
returns-in-Err c =
    let none : IsNoRing c.args.plan.ids (length c.args.plan.program.steps) c.args.ids.items
    (fault_of c.in-Err.fault) = search rules in
    told (fault_of c.in-Err.fault) none refl
