use Rattle.std.proofs.Common.{◌++◌, ap, ◌∙◌}
use Rattle.source_text.specs.Heads.{note_head}
use Rattle.table_notes.proofs.Joined.{four_pieces}
use Rattle.table_notes.proofs.tables.form_note.Goals as goal

-- The pieces of the note, one after another.
pub returns : goal.returns
returns c = record {
  advice = c.form_advice.result.now;
  is = four_pieces _ _ _
      (c.in_ok-write_note_head.ensures
      ∙ ap (λ x. x ++ note_head c.args.text.now c.args.offset) c.new-note.ensures.bytes)
      c.in_ok-push_str.ensures.bytes c.in_ok-push_str-2.ensures.bytes c.in_ok-push_str-3.ensures.bytes
      c.in_ok-write_marked_line.ensures;
}
