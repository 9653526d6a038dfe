use Rattle.table_notes.proofs.rings.ring_note.Goals as goal

pub returns-in_ok-format-in-Repeated : goal.returns-in_ok-format-in-Repeated
returns-in_ok-format-in-Repeated c =
    rw c.in-Repeated.is (rw (← c.note_end-end.ensures) c.in_ok-format-in-Repeated.ensures.ok)
