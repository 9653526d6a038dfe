use Rattle.std.proofs.Common.{refl, rules}
use Rattle.std.proofs.lemmas.Result.{IfOk-weaker}
use Rattle.table_text.specs.Texts.{IsTextOf}
use Rattle.reports.specs.Findings.{fault_of}
use Rattle.reports.specs.Report.{IsTableRefusal, answered, told as refuses}
use Rattle.reports.proofs.texts.apply_report.Goals as goal

pub returns-in-Ok : goal.returns-in-Ok
returns-in-Ok c =
    let told : IsTextOf c.args.input.now c.in-Ok.table c.in-Ok._separation = search rules in
    IfOk-weaker c.apply_answer.result _ _ (λ f said. answered (c.in-Ok.table, c.in-Ok._separation, told, said)) c.apply_answer.ensures

pub returns-in-Err : goal.returns-in-Err
returns-in-Err c =
    let none : IsTableRefusal c.args.input.now (fault_of c.in-Err.fault) = search rules in
    refuses (fault_of c.in-Err.fault) none refl
