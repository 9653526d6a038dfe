use Rattle.std.proofs.Common.{ap, ◌∙◌}
use Rattle.reports.specs.Report.{broken, broken_of, solved}
use Rattle.reports.proofs.problem_judgement.problem_answer.Goals as goal

pub returns-in-No : goal.returns-in-No
returns-in-No c =
    let w = c.in-No.witness in
    broken w.ring.items w.place w.channels w.pattern (rw c.in-No.is at c.requires)
    (c.broken_answer.ensures
    ∙ ap (λ count. broken_of c.args.problem.now count w.ring.items w.place w.channels w.pattern)
    c.channels.ensures.value)

pub returns-in-Yes : goal.returns-in-Yes
returns-in-Yes c = solved (rw c.in-Yes.is at c.requires) c.solved_answer.ensures
