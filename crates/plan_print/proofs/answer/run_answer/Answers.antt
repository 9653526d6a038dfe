use Rattle.std.proofs.Common.{ℕ, List, refl, subst}
use Rattle.std.proofs.lemmas.Result.{IfOk-weaker}
use Rattle.reports.specs.Findings.{fault_of, value_of}
use Rattle.reports.specs.Report.{IsRunAnswer, told, answered}
use Rattle.plan_print.proofs.answer.run_answer.Goals as goal

-- The list is a ring.
pub returns-in-Ok-clause-answer : goal.returns-in-Ok-clause-answer
returns-in-Ok-clause-answer g c =
    IfOk-weaker c.channels_answer.result _ _
    (λ f said. answered (
      c.in-Ok.ensures.1,
      subst (λ (x : List ℕ). IsRunAnswer c.args.plan.now.program x c.args.segments (value_of f))
          (λ i. (c.in-Ok.ensures.0 i).places) said,
    ))
    c.channels_answer.ensures.answer

-- The list is not a ring.
pub returns-in-Err-clause-answer : goal.returns-in-Err-clause-answer
returns-in-Err-clause-answer g c = told (fault_of c.in-Err.fault) c.in-Err.ensures refl
