-- The texts of pieces.
use Rattle.std.proofs.Common.{◌≡◌, ℕ, ◌+◌, ◌<◌, List, [], ◌∷◌, ◌++◌, map, length, get_or, sym, ap, subst, ◌∙◌}
use Rattle.std.proofs.Common.{arith, length-append}
use Rattle.std.specs.List.{range_with_len}
use Rattle.std.proofs.lemmas.List.{get_or-map, map-append}
use Rattle.std.proofs.lemmas.List.FromFn.{get_or-map-range_with_len, map-range_with_len_more}
use Rattle.table_text.specs.declared.piece.Piece.{Piece}
use Rattle.table_text.specs.Pieces.{piece_text, AreTexts}

-- one more piece
texts_more :
    (text : ℕ → List ℕ) (pieces : List Piece) (piece : Piece) → AreTexts text pieces →
    piece_text piece ≡ text (length pieces)
    → AreTexts text (pieces ++ piece ∷ [])
texts_more text pieces piece are is =
    let n = length pieces in
    let size : length (pieces ++ piece ∷ []) ≡ n + 1 = length-append pieces (piece ∷ []) in
    map-append piece_text pieces (piece ∷ []) ∙ (λ i. are i ++ is i ∷ [])
    ∙ sym (map-range_with_len_more text 0 n n (omega arith))
    ∙ ap (λ k. map text (range_with_len 0 k)) (sym size)

-- so many pieces and one more
pub one_more : (text : ℕ → List ℕ) (pieces : List Piece) (piece : Piece) {now : List Piece} {n : ℕ} →
    AreTexts text pieces → length pieces ≡ n → piece_text piece ≡ text n → now ≡ pieces ++ piece ∷ [] →
    AreTexts text now × (length now ≡ n + 1)
one_more text pieces piece {n = n} are count is pushed = (
  subst (AreTexts text) (sym pushed) (texts_more text pieces piece are (is ∙ ap text (sym count))),
  ap length pushed ∙ length-append pieces (piece ∷ []) ∙ ap (λ n. n + 1) count,
)

-- the text of the piece at an index
pub piece_at :
    (text : ℕ → List ℕ) (pieces : List Piece) (i : ℕ) (d : Piece) → AreTexts text pieces →
    i < length pieces → piece_text (get_or pieces i d) ≡ text i
piece_at text pieces i d are lt =
    sym (get_or-map piece_text pieces i d [] lt) ∙ ap (λ texts. get_or texts i []) are
    ∙ get_or-map-range_with_len text 0 (length pieces) i i [] lt (omega arith)
