-- The text of a formula, clause by clause.
use Rattle.std.proofs.Common.{◌≡◌, ℕ, ◌+◌, ◌-◌, ◌≤◌, List, [], ◌∷◌, ◌++◌, length, take, drop, slice_get, slice_set}
use Rattle.std.proofs.Common.{Some, sym, ap, ◌∙◌, arith, append_assoc}
use Rattle.std.specs.List.{flat_map}
use Rattle.std.proofs.lemmas.List.{flat_map_more, take_more, take-append-drop, drop-set}
use Rattle.std.proofs.lemmas.Grind.{flat_map-append}
use Rattle.std.proofs.lemmas.Option.{slice_get_within, get_or_from_slice_get}

-- one more item's text
pub text_more : {X : Type 0} (f : X → List ℕ) (head out more : List ℕ) (xs : List X) (i : ℕ) (x : X) →
    out ≡ head ++ flat_map f (take i xs)
    → slice_get xs i ≡ Some x → more ≡ out ++ f x → more ≡ head ++ flat_map f (take (i + 1) xs)
text_more f head out more xs i x before item added =
    let within = slice_get_within xs i x item in
    let longer = take_more xs i x within ∙ ap (λ y. take i xs ++ y ∷ []) (get_or_from_slice_get xs i x x item) in
    added ∙ ap (λ (bytes : List ℕ). bytes ++ f x) before ∙ flat_map_more f head (take i xs) x
    ∙ ap (λ ys. head ++ flat_map f ys) (sym longer)

-- the texts of the first items and of the others
pub text_rest : {X : Type 0} (f : X → List ℕ) (head : List ℕ) (xs : List X) (i : ℕ) →
    head ++ flat_map f (take i xs) ++ flat_map f (drop i xs) ≡ head ++ flat_map f xs
text_rest f head xs i =
    append_assoc head (flat_map f (take i xs)) (flat_map f (drop i xs))
    ∙ ap (λ (text : List ℕ). head ++ text)
    (sym (flat_map-append f (take i xs) (drop i xs)) ∙ ap (flat_map f) (take-append-drop i xs))

-- a sign before a number
pub sign_before : (start : ℕ) (bytes text : List ℕ) → 1 ≤ start → start ≤ length bytes → drop start bytes ≡ text
    → drop (start - 1) (slice_set bytes (start - 1) 45) ≡ 45 ∷ text
sign_before start bytes text some within is =
    let at' : start - 1 + 1 ≡ start = omega arith in
    drop-set bytes (start - 1) 45 (omega arith) ∙ ap (λ n. 45 ∷ drop n bytes) at' ∙ ap (λ (rest : List ℕ). 45 ∷ rest) is
