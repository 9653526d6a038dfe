use Rattle.std.proofs.Common.{◌++◌, ap, ◌∙◌, string_bytes}
use Rattle.fault_notes.specs.TextNotes.{cause_of}
use Rattle.fault_notes.proofs.Joined.{note_pieces}
use Rattle.fault_notes.proofs.text_notes.write_note.Goals as goal

-- The pieces of the note, one after another.
pub returns : goal.returns
returns c =
    let advice = c.in_ok-write_advice.ensures in (
      advice.0,
      advice.1,
      note_pieces _ _ _ _ _
          c.in_ok-write_note_head.ensures
          (c.in_ok-write_cause.ensures
          ∙ ap (λ w. string_bytes c.write_note_head.new.out
          ++ cause_of c.args.misread.fault.kind w c.args.misread.expected)
          c.word_at-word.ensures)
          advice.2 c.in_ok-push_str.ensures.bytes c.in_ok-write_marked_line.ensures,
    )
