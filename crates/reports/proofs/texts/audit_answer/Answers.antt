use Rattle.std.proofs.Common.{subst, sym}
use Rattle.std.proofs.lemmas.Result.{IfOk-weaker}
use Rattle.reports.specs.Findings.{value_of}
use Rattle.reports.specs.Report.{IsAudit}
use Rattle.reports.proofs.texts.audit_answer.Goals as goal

pub returns-in-None : goal.returns-in-None
returns-in-None g c =
    IfOk-weaker c.audit_report.result _ _
    (λ f said. subst (λ problem. IsAudit problem c.args.table.now c.args.separation (value_of f)) (sym c.in-None.is) said) c.audit_report.ensures

pub returns-in-Some : goal.returns-in-Some
returns-in-Some g c =
    IfOk-weaker c.audit_problem_report.result _ _
    (λ f said. subst (λ problem. IsAudit problem c.args.table.now c.args.separation (value_of f)) (sym c.in-Some.is) said)
    c.audit_problem_report.ensures
