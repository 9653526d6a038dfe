use Rattle.std.proofs.Common.{◌++◌, ap, ◌∙◌}
use Rattle.fault_notes.specs.BoundNotes.{growth_text}
use Rattle.fault_notes.specs.ProgramNotes.{bound_note, not_line}
use Rattle.fault_notes.proofs.program_notes.bound_note.Goals as goal

-- The three pieces.
pub returns : goal.returns
returns c =
    let growth = growth_text c.args.program.now c.args.ids in
    let line = not_line c.args.text.now c.args.bound in
    c.in_ok-push_str.ensures.bytes
    ∙ (λ i. c.in_ok-write_growth.ensures i ++ c.not_line.ensures i)
    ∙ ap (λ b. (b ++ growth) ++ line)
    (c.in_ok-note.ensures ∙ ap (λ n. bound_note n c.args.bound) c.channels.ensures.value)
