use Rattle.std.proofs.Common.{◌≡◌, length}
use Rattle.table_text.specs.Pieces.{text_of, AreTexts}
use Rattle.table_text.proofs.pieces.numbered_pieces.Given as goal

abbrev pub invariant-loop-number : goal.invariant-loop-number
invariant-loop-number l =
    record { texts : AreTexts (text_of l.kind) l.pieces.items; count : length l.pieces.items ≡ l.number }
