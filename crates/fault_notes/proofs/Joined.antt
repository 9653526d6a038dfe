-- Pieces of a note that were written one after another.
use Rattle.std.proofs.Common.{◌≡◌, ℕ, List, [], ◌∷◌, ◌++◌, ap, ◌∙◌, append_assoc}

regroup_note : (o a b c d : List ℕ) → ((((o ++ a) ++ b) ++ c) ++ 10 ∷ []) ++ d ≡ o ++ (a ++ (b ++ (c ++ 10 ∷ d)))
regroup_note o a b c d = simp append_assoc

pub note_pieces : {n m l k j : List ℕ} (o a b c d : List ℕ) → n ≡ o ++ a → m ≡ n ++ b → l ≡ m ++ c →
    k ≡ l ++ 10 ∷ [] → j ≡ k ++ d → j ≡ o ++ (a ++ (b ++ (c ++ 10 ∷ d)))
note_pieces o a b c d p q r s t =
    t ∙ ap (λ x. x ++ d) (s ∙ ap (λ x. x ++ 10 ∷ []) (r ∙ ap (λ x. x ++ c) (q ∙ ap (λ x. x ++ b) p)))
    ∙ regroup_note o a b c d
