-- Pieces of a note that were written one after another.
use Rattle.std.proofs.Common.{◌≡◌, ℕ, List, [], ◌∷◌, ◌++◌, ap, ◌∙◌, append_assoc}

regroup : (head advice last : List ℕ) → ((head ++ advice) ++ 10 ∷ []) ++ last ≡ head ++ (advice ++ 10 ∷ last)
regroup head advice last = simp append_assoc

-- a start, advice, a line feed, and what is made of a text that is another one
pub line_pieces : {head n m l k rest told : List ℕ} (advice : List ℕ) (f : List ℕ → List ℕ) → n ≡ head
    → m ≡ n ++ advice →
    l ≡ m ++ 10 ∷ [] → k ≡ l ++ f rest → rest ≡ told → k ≡ head ++ (advice ++ 10 ∷ f told)
line_pieces {head = head} {rest = rest} {told = told} advice f p q r s t =
    s ∙ ap (λ x. x ++ f rest) (r ∙ ap (λ x. x ++ 10 ∷ []) (q ∙ ap (λ x. x ++ advice) p))
    ∙ ap (λ x. ((head ++ advice) ++ 10 ∷ []) ++ f x) t ∙ regroup head advice (f told)
