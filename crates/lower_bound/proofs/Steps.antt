-- A colouring of shorter lists, by sets of colours.
use Rattle.std.proofs.Common.{◌≡◌, ℕ, suc, ◌^◌, ◌<◌, ◌++◌, ◌∷◌, [], Bool, true, eqb, List, length-append, get_or, ap}
use Rattle.std.proofs.Common.{◌∙◌, arith}
use Rattle.std.proofs.lemmas.Bool.{eqb-true, eq-eqb}
use Rattle.std.proofs.lemmas.List.Folds.{list_any_at, Any-from_list_any}
use Rattle.std.proofs.lemmas.List.FromFn.{length-range_with_len, get_or-range_with_len}
use Rattle.std.specs.List.{list_any, range_with_len}
use Rattle.lower_bound.proofs.BitSets.{bits, bits_below, same_members}
use Rattle.lower_bound.proofs.Colourings.{first_or, IsColouring}

-- whether some number before the list makes it a list of this colour
abbrev is_before : ℕ → (List ℕ → ℕ) → List ℕ → ℕ → Bool
is_before m colour list y = list_any (λ x. eqb (colour (x ∷ list)) y) (range_with_len 0 (first_or m list))

-- the set of these colours
pub set_before : ℕ → ℕ → (List ℕ → ℕ) → List ℕ → ℕ
set_before m c colour list = bits c (is_before m colour list)

before : (m x : ℕ) (colour : List ℕ → ℕ) (list : List ℕ) → x < first_or m list
    → is_before m colour list (colour (x ∷ list)) ≡ true
before m x colour list lt =
    let n = first_or m list in
    let item = get_or-range_with_len 0 n x 0 lt in
    let at' : get_or (range_with_len 0 n) x 0 ≡ x = omega (arith, item) in
    list_any_at (λ z. eqb (colour (z ∷ list)) (colour (x ∷ list))) (range_with_len 0 n) x 0
    (omega (arith, length-range_with_len 0 n, lt))
    (eq-eqb _ _ (ap (λ z. colour (z ∷ list)) at'))

of_before : (m y : ℕ) (colour : List ℕ → ℕ) (list : List ℕ) → is_before m colour list y ≡ true
    → (x : ℕ) × (x < first_or m list) × (colour (x ∷ list) ≡ y)
of_before m y colour list is =
    let n = first_or m list in
    let found = Any-from_list_any (λ x. eqb (colour (x ∷ list)) y) (range_with_len 0 n) is in
    let within : found.0 < n = omega (arith, length-range_with_len 0 n, found.2) in
    let item : found.1 ≡ found.0 = omega (arith, found.3, get_or-range_with_len 0 n found.0 found.1 within) in
    (found.1, omega (arith, item, within), eqb-true _ _ found.4)

pub shorter : (k m c : ℕ) (colour : List ℕ → ℕ) → IsColouring (suc k) m c colour
    → IsColouring k m (2 ^ c) (set_before m c colour)
unfolding set_before
shorter k m c colour is =
    record {
      below = λ list rises size. bits_below c (is_before m colour list);
      differ = λ x y middle rises size same.
          let own : ℕ = colour (x ∷ middle ++ y ∷ []) in
          let few : own < c = is.below (x ∷ middle ++ y ∷ []) rises
          (omega (arith, size, length-append middle (y ∷ []))) in
          let members = same_members c (is_before m colour (x ∷ middle)) (is_before m colour (middle ++ y ∷ [])) same own few in
          let found = of_before m own colour (x ∷ middle) (members ∙ before m x colour (middle ++ y ∷ []) rises.0) in
          is.differ found.0 y (x ∷ middle) (found.1, rises) (ap suc size) found.2;
    }
