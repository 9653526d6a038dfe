use Rattle.std.proofs.Common.{refl}
use Rattle.reports.specs.Report.{bad}
use Rattle.reports.proofs.judgement.verdict_answer.Goals as goal

pub returns-in-No : goal.returns-in-No
returns-in-No c = let w = c.in-No.witness in bad w.ring.items w.places w.channels (rw c.in-No.is at c.requires) refl
