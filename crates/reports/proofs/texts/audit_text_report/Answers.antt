use Rattle.std.proofs.Common.{refl, rules}
use Rattle.std.proofs.lemmas.Result.{IfOk-weaker}
use Rattle.table_text.specs.Texts.{IsTextOf}
use Rattle.reports.specs.Findings.{fault_of}
use Rattle.reports.specs.Report.{IsTableRefusal, answered, told as refuses}
use Rattle.reports.proofs.texts.audit_text_report.Goals as goal

pub returns-in-Ok : goal.returns-in-Ok
returns-in-Ok g c =
    let told : IsTextOf c.args.input.now c.in-Ok.table c.in-Ok.separation = search rules in
    IfOk-weaker c.audit_answer.result _ _ (λ f said. answered (c.in-Ok.table, c.in-Ok.separation, told, said)) c.audit_answer.ensures

pub returns-in-Err : goal.returns-in-Err
returns-in-Err g c =
    let none : IsTableRefusal c.args.input.now (fault_of c.in-Err.fault) = search rules in
    refuses (fault_of c.in-Err.fault) none refl
