use Rattle.table_notes.proofs.Joined.{five_pieces, pushed}
use Rattle.std.proofs.Common.{codes}
use Rattle.std.proofs.lemmas.Result.{on_ok_weaker}
use Rattle.table_notes.proofs.verdicts.write_windows.Goals as goal

-- The pieces, one after another.
pub returns : goal.returns
returns c =
    on_ok_weaker c.push_str-3.result
    (five_pieces _ _ _ _ _ (codes "\n") c.in_ok-push_str.ensures.bytes
    (rw (c.deref.ensures.value, c.in_ok-window_of.ensures) at c.in_ok-write_joined.ensures)
    c.in_ok-push_str-2.ensures.bytes
    (rw (c.deref-2.ensures.value, c.in_ok-window_of-2.ensures) at c.in_ok-write_joined-2.ensures))
    (pushed c.push_str-3.result _ _ (codes "\n") c.push_str-3.ensures.bytes)
