use Rattle.std.proofs.Common.{◌∙◌, arith, rules}
use Rattle.std.proofs.lemmas.Option.{IfSome_then}
use Rattle.fault_notes.proofs.Repairing.{makes_program, faults_later}
use Rattle.fault_notes.proofs.edits.left_after.Goals as goal

-- The edited text has a late fault.
pub returns-in-Some : goal.returns-in-Some
returns-in-Some c =
    IfSome_then c.left_behind.result c.left_behind.ensures (λ left late.
    faults_later c.args.text.now c.deref.result.now c.args.offset c.args.edit.now (omega (arith, c.if-edit.false))
    (omega (arith, c.if-edit-text.false)) (search rules) (c.deref.ensures.value ∙ c.in_ok-new.ensures)
    c.in-Some.fault.kind c.in-Some.fault.offset c.text_from-behind.result.now (search rules) late.0 (search rules)
    (search rules))

-- The edited text is a program.
pub returns : goal.returns
returns c =
    makes_program c.args.text.now c.deref.result.now c.args.offset c.args.edit.now (omega (arith, c.if-edit.false))
    (omega (arith, c.if-edit-text.false)) (search rules) (c.deref.ensures.value ∙ c.in_ok-new.ensures) (search rules)
