use Rattle.source_text.specs.Shown.{marked_line}
use Rattle.table_formula.proofs.NotePieces.{line_pieces}
use Rattle.table_formula.proofs.notes.line_note.Goals as goal

-- The pieces of the note, one after another.
pub returns : goal.returns
returns c = record {
  advice = c.line_advice.result.now;
  none = c.line_advice.ensures.none;
  is = line_pieces _ (λ rest. marked_line rest 0)
      c.in_ok-note.ensures c.in_ok-push_str.ensures.bytes c.in_ok-push_str-2.ensures.bytes
      c.in_ok-write_marked_line.ensures c.from_line-rest.ensures;
}
