use Rattle.std.proofs.Common.{IfOk, string_bytes, subst, sym}
use Rattle.std.specs.Prelude.{Result, Ok, Err}
use Rattle.reports.specs.declared.fault.Fault as declared
use Rattle.reports.specs.Findings.{fault_of}
use Rattle.plan_print.specs.Notes.{IsFaultNote, IsFaultOf}
use Rattle.plan_print.proofs.note.fault_note.Goals as goal

-- what holds of a result by a fact, and without it
by_fact : {A E : Type 0} (r : Result A E) (F : Type 0) (P Q : A → Type 0) → (F → IfOk r P) → (¬ F → IfOk r Q)
    → IfOk r (λ x. (F → P x) × (¬ F → Q x))
by_fact (Ok x) F P Q p q = (p, q)
by_fact (Err e) F P Q p q = tt

pub returns-in-Text : goal.returns-in-Text
returns-in-Text c =
    let found = subst (λ (x : declared.Fault). IsFaultOf c.args.input.now (fault_of x)) c.in-Text.is c.requires in
    subst (λ (x : declared.Fault). IfOk c.text_note.result (λ note. IsFaultNote c.args.input.now (fault_of x) (string_bytes note))) (sym c.in-Text.is)
    (by_fact c.text_note.result _ _ _ c.text_note.ensures.too_long (λ other. c.text_note.ensures.note other found))
