use Rattle.std.proofs.Common.{ap}
use Rattle.node_program.specs.Term.{ProgramTree}
use Rattle.reports.specs.Findings.{of_program}
use Rattle.reports.specs.Report.{check_fault}
use Rattle.reports.proofs.texts.plan_in.Goals as goal

-- The program is refused.
pub returns-in-Err-accept : goal.returns-in-Err-accept
returns-in-Err-accept c =
    let f = c.in-Err-accept.fault in
    let refused = c.in-Err-accept.ensures.err in
    check_fault c.in-Ok.program f (rw c.in-Ok.is at c.in_ok-program.ensures) refused.1
    (ap (λ (p : ProgramTree). of_program p c.args.ids f) refused.0)
