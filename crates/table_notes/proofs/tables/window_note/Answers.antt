use Rattle.std.proofs.Common.{◌∙◌, ap}
use Rattle.table_notes.specs.TableNotes.{of_window, line_note}
use Rattle.std.proofs.lemmas.Result.{IfOk-weaker}
use Rattle.table_notes.proofs.tables.window_note.Goals as goal

pub returns-in-Some : goal.returns-in-Some
returns-in-Some c =
    IfOk-weaker c.line_note.result _ _
    (λ note is. of_window c.in-Some.window.items (let due = rw c.in-Some.is at c.in_ok-window.ensures.window in due)
    (is ∙ ap (λ items. line_note c.args.line items c.doubled_text.result.now) c.deref.ensures.value
    ∙ ap (line_note c.args.line c.in-Some.window.items) c.doubled_text.ensures)) c.line_note.ensures
