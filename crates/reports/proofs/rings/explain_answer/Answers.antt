use Rattle.std.proofs.Common.{ℕ, List, length, refl, rules, subst}
use Rattle.win_index.specs.Ring.{IsRing}
use Rattle.reports.specs.Findings.{fault_of, value_of}
use Rattle.reports.specs.Report.{IsExplainAnswer, IsNoRing, told, answered}
use Rattle.reports.proofs.rings.explain_answer.Goals as goal

-- The list is a ring.
pub returns-in-Ok : goal.returns-in-Ok
returns-in-Ok c =
    let is : IsRing c.args.plan.ids (length c.args.plan.program.steps) c.args.ids.items = search rules in
    answered (
      is,
      subst (λ (x : List ℕ). IsExplainAnswer c.args.base c.args.plan.program x c.args.place (value_of c.place_answer.result))
          (λ i. (c.in-Ok.ensures.0 i).places) c.place_answer.ensures,
    )

-- The list is not a ring.
pub returns-in-Err : goal.returns-in-Err
returns-in-Err c =
    let none : IsNoRing c.args.plan.ids (length c.args.plan.program.steps) c.args.ids.items
    (fault_of c.in-Err.fault) = search rules in
    told (fault_of c.in-Err.fault) none refl
