use Rattle.std.proofs.Common.{◌≡◌, ◌++◌, ap, subst, ◌∙◌, codes, string_bytes}
use Rattle.table_notes.specs.VerdictNotes.{verdict_note}
use Rattle.table_notes.proofs.Joined.{six_pieces}
use Rattle.table_notes.proofs.verdicts.verdict_note.Goals as goal

pub returns : goal.returns
returns c =
    subst (λ ring. string_bytes c.write_windows.new.out
    ≡ verdict_note ring c.args.witness.now.places c.args.witness.now.channels)
    c.deref-ring.ensures.value
    (six_pieces _ _ _ _ _
    (c.in_ok-push_str.ensures.bytes ∙ ap (λ x. x ++ codes "nbhd: on the ring ") c.new-note.ensures.bytes)
    c.in_ok-write_joined.ensures
    (c.in_ok-push_str-2.ensures.bytes ∙ ap (λ x. string_bytes c.write_joined.new.out ++ x) c.distance_text.ensures)
    c.in_ok-write_pair.ensures c.in_ok-write_channels.ensures c.in_ok-write_windows.ensures)
