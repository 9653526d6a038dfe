-- Texts written in parts, and the items of a list from the j-th on.
use Rattle.std.proofs.Common.{◌≡◌, ℕ, ◌+◌, ◌<◌, List, ◌∷◌, ◌++◌, append_assoc, map, length, get_or, drop, sym, ap, ◌∙◌}
use Rattle.std.proofs.Common.{add-one, arith}
use Rattle.std.proofs.Math.Seq.{drop-cons}
use Rattle.std.proofs.lemmas.List.{get_or-map, length-map}

-- the items from the j-th on are that item and the others
pub next_item : {A B : Type 0} (f : A → B) (xs : List A) (j : ℕ) (x : A) → j < length xs →
    x ≡ get_or xs j x → drop j (map f xs) ≡ f x ∷ drop (j + 1) (map f xs)
next_item f xs j x h is =
    let here : get_or (map f xs) j (f x) ≡ f x = get_or-map f xs j x (f x) h ∙ ap f (sym is) in
    drop-cons (map f xs) j (f x) (omega (arith, length-map xs f, h))
    ∙ (λ i. here i ∷ drop (sym (add-one j) i) (map f xs))

-- three texts after a text
pub three_more : (t a b c : List ℕ) → ((t ++ a) ++ b) ++ c ≡ t ++ (a ++ (b ++ c))
three_more t a b c = simp append_assoc
