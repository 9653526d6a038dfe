use Rattle.std.proofs.Common.{refl}
use Rattle.reports.specs.Report.{bad}
use Rattle.plan_print.proofs.answer.apart_report.Goals as goal

pub returns-in-Some-clause-answer : goal.returns-in-Some-clause-answer
returns-in-Some-clause-answer g c =
    let w = c.in-Some.witness in
    bad w.ring.items w.places w.channels (rw c.in-Some.is at c.in_ok-witness.ensures.witness) refl
