use Rattle.std.proofs.Common.{◌<◌, ◌≤◌, ◌∷◌, [], ℕ, length, sym, ◌∙◌, arith, length-append, subst}
use Rattle.std.specs.Fmt.{decimal}
use Rattle.std.proofs.lemmas.Fmt.{length-decimal-le}
use Rattle.table_text.specs.Pieces.{text_of}
use Rattle.table_text.specs.declared.pieces.Kind.{Kind}
use Rattle.table_text.specs.declared.pieces.Kind.TheVariants.{Id, Channel}
use Rattle.table_text.proofs.PieceTexts.{one_more}
use Rattle.table_text.proofs.pieces.numbered_pieces.Goals as goal

-- a number of at most four digits has a short text
short : (kind : Kind) (number : ℕ) → number < 10000 → length (text_of kind number) ≤ 8
short Id number low =
    omega (
      arith,
      length-decimal-le 4 number (omega arith) low (omega (arith, low)),
      length-append (decimal number) (32 ∷ []),
    )
short Channel number low =
    omega (
      arith,
      length-decimal-le 4 number (omega arith) low (omega (arith, low)),
      length-append (decimal number) (10 ∷ []),
    )

pub piece_of-requires : goal.piece_of-requires
piece_of-requires c =
    subst (λ text. length text ≤ 8) (sym (c.as_bytes.ensures.value ∙ c.in_ok-text.ensures))
    (short c.args.kind c.loop-number.number (omega (arith, c.requires)))

-- One more piece was made.
pub loop-number-preserved : goal.loop-number-preserved
loop-number-preserved c =
    let was = c.loop-number.invariant in
    let made = c.piece_of.ensures ∙ c.as_bytes.ensures.value ∙ c.in_ok-text.ensures in
    let more = one_more (text_of c.args.kind) c.loop-number.pieces.items c.piece_of.result was.texts was.count
    made c.in_ok-push.ensures.items in
    record { texts = more.0; count = more.1 }
