use Rattle.std.proofs.Common.{◌≡◌, ℕ, subst}
use Rattle.table_fill.specs.ProgramTables.{table_of}
use Rattle.reports.specs.Findings.{value_of}
use Rattle.reports.specs.Report.{broken, broken_of}
use Rattle.plan_print.proofs.answer.problem_report.Goals as goal

pub returns-in-Some-clause-answer : goal.returns-in-Some-clause-answer
unfolding table_of
returns-in-Some-clause-answer g c =
    let w = c.in-Some.witness in
    let witness = rw c.in-Some.is at c.in_ok-witness.ensures.witness in
    broken w.ring.items w.place w.channels w.pattern (rw c.patterns.ensures at witness)
    (subst (λ (count : ℕ). value_of c.broken_answer.result
    ≡ broken_of c.args.problem.now count w.ring.items w.place w.channels w.pattern)
    c.channels.ensures.value c.broken_answer.ensures)
