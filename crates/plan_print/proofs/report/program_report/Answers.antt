use Rattle.std.proofs.Common.{◌≡◌, refl, rules}
use Rattle.std.proofs.lemmas.Result.{IfOk-weaker}
use Rattle.node_lang.specs.Grammar.{Reads}
use Rattle.lang_check.specs.Acceptance.{IsAccepted}
use Rattle.reports.specs.Findings.{fault_of}
use Rattle.reports.specs.Report.{answered, told}
use Rattle.plan_print.proofs.report.program_report.Goals as goal

pub returns-in-Ok-clause-report : goal.returns-in-Ok-clause-report
returns-in-Ok-clause-report g c =
    let p = c.in-Ok.plan.program in
    let ids : c.in-Ok.plan.ids ≡ c.args.ids = search rules in
    let reads : Reads c.args.input.now p = search rules in
    let accepted : IsAccepted c.args.ids p = search rules in
    IfOk-weaker c.program_answer.result _ _ (λ f said. answered (p, reads, accepted, rw ids at said)) c.program_answer.ensures.answer

pub returns-in-Err-clause-report : goal.returns-in-Err-clause-report
returns-in-Err-clause-report g c = told (fault_of c.in-Err.fault) (rw c.in-Err.is at c.in_ok-plan.ensures) refl
