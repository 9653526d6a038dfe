-- Lists in which one element was replaced.
use Rattle.std.proofs.Common.{◌≡◌, ◌≢◌, ℕ, ◌<◌, List, map, length, get_or, arith, refl, subst, sym, ◌∙◌, ap, ⊎_elim}
use Rattle.std.proofs.Math.ListN.{set}
use Rattle.std.specs.List.{range_with_len}
use Rattle.std.proofs.lemmas.Bool.{cases_eq}
use Rattle.std.proofs.lemmas.List.{get_or-set_same, get_or-set_other, length-set}
use Rattle.std.proofs.lemmas.List.FromFn.{fill_by_all, length-map-range_with_len, get_or-map-range_with_len}

-- what holds of the new element and of all others holds of each
pub set_cases :
    {X : Type 0} (all : List X) (s k : ℕ) (y d : X) (P : X → Type 0) → s < length all → (k ≡ s → P y)
    → (k ≢ s → P (get_or all k d)) → P (get_or (set all s y) k d)
set_cases all s k y d P lt here other =
    ⊎_elim
    (λ (same : k ≡ s).
    subst P (sym (ap (λ j. get_or (set all s y) j d) same ∙ get_or-set_same all s y d lt)) (here same))
    (λ (ne : k ≡ s → ⊥). subst P (sym (get_or-set_other all s k y d ne)) (other ne))
    (cases_eq k s)

-- a function that does not tell the new element from the old one is unchanged at each
pub set_unseen :
    {X Y : Type 0} (f : X → Y) (all : List X) (s : ℕ) (y d : X) → s < length all → f y ≡ f (get_or all s d)
    → (k : ℕ) → f (get_or all k d) ≡ f (get_or (set all s y) k d)
set_unseen f all s y d lt same k =
    set_cases all s k y d (λ x. f (get_or all k d) ≡ f x) lt
    (λ at. ap (λ j. f (get_or all j d)) at ∙ sym same) (λ _. refl)

-- a list made from a function of the index
pub set_made :
    {X : Type 0} (f h : ℕ → X) (n i : ℕ) (y d : X) → i < n → y ≡ h i → ((k : ℕ) → k ≢ i → k < n → f k ≡ h k)
    → set (map f (range_with_len 0 n)) i y ≡ map h (range_with_len 0 n)
set_made f h n i y d lt here other =
    let long : length (map f (range_with_len 0 n)) ≡ n = length-map-range_with_len f 0 n in
    fill_by_all h (set (map f (range_with_len 0 n)) i y) n d (length-set (map f (range_with_len 0 n)) i y ∙ long)
    (λ k below.
    set_cases (map f (range_with_len 0 n)) i k y d (λ x. x ≡ h k) (omega arith)
    (λ same. here ∙ ap h (sym same))
    (λ ne. get_or-map-range_with_len f 0 n k k d below (omega arith) ∙ other k ne below))
