-- A list that is mapped item by item.
use Rattle.std.proofs.Common.{◌≡◌, ℕ, ◌+◌, ◌<◌, List, [], ◌∷◌, ◌++◌, map, length, take, drop, get_or, slice_set, refl}
use Rattle.std.proofs.Common.{sym, ap, ◌∙◌, append_assoc, add-one, drop-cons, arith}
use Rattle.std.proofs.lemmas.Grind.{take-set_at}
use Rattle.std.proofs.lemmas.List.{drop-set-lt}

-- one more item is mapped
pub mapped_more : (f : ℕ → ℕ) (xs all : List ℕ) (i y : ℕ) → i < length xs → y ≡ f (get_or xs i 0)
    → take i xs ++ map f (drop i xs) ≡ all
    → take (i + 1) (slice_set xs i y) ++ map f (drop (i + 1) (slice_set xs i y)) ≡ all
mapped_more f xs all i y lt is before =
    let same : map f (drop (i + 1) (slice_set xs i y)) ≡ map f (drop (i + 1) xs) =
    ap (map f) (drop-set-lt (i + 1) xs i y (omega arith)) in
    let next : y ∷ map f (drop (i + 1) xs) ≡ map f (drop i xs) =
    (λ j. is j ∷ map f (drop (add-one i j) xs)) ∙ sym (ap (map f) (drop-cons xs i 0 lt)) in
    (λ j. take-set_at xs i (i + 1) y refl lt j ++ same j)
    ∙ append_assoc (take i xs) (y ∷ []) (map f (drop (i + 1) xs))
    ∙ ap (λ (ys : List ℕ). take i xs ++ ys) next
    ∙ before
