use Rattle.fault_notes.specs.TextNotes.{other}
use Rattle.fault_notes.proofs.text_notes.long_note.Goals as goal

pub returns-in_ok-format-in-Some : goal.returns-in_ok-format-in-Some
returns-in_ok-format-in-Some c = other c.in-Some.advice.now c.in-Some.ensures.some c.in_ok-format-in-Some.ensures.ok
