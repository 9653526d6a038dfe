-- How many numbers a colouring can have.
use Rattle.std.proofs.Common.{◌≡◌, ◌≢◌, ℕ, zero, suc, ◌^◌, ◌<◌, ◌≤◌, ◌∷◌, [], eqb, List, length, map, All, AllPairs}
use Rattle.std.proofs.Common.{refl, sym, ap, ◌∙◌, arith}
use Rattle.std.proofs.lemmas.Bool.{eqb-true, ne_eqb}
use Rattle.std.proofs.lemmas.List.Folds.{Any-from_list_any}
use Rattle.std.proofs.lemmas.List.FromFn.{length-map-range_with_len, get_or-map-range_with_len}
use Rattle.std.proofs.lemmas.Map.Keys.{IsDistinct-from_apart}
use Rattle.std.proofs.lemmas.Map.Steps.{length-le_from_distinct_below}
use Rattle.std.specs.List.{range_with_len}
use Rattle.lower_bound.specs.Towers.{tower}
use Rattle.lower_bound.proofs.Colourings.{IsColouring}
use Rattle.lower_bound.proofs.Steps.{set_before, shorter}

-- one number more at the foot of a tower
tower_foot : (k c : ℕ) → tower k (2 ^ c) ≡ 2 ^ tower k c
tower_foot zero c = refl
tower_foot (suc k) c = ap (λ n. 2 ^ n) (tower_foot k c)

-- as many numbers below c as there are, or fewer, are all different
few_below : (numbers : List ℕ) (c : ℕ) → AllPairs (λ a b. a ≢ b) numbers → All (λ x. x < c) numbers → length numbers ≤ c
few_below numbers c differ below =
    length-le_from_distinct_below numbers c
    (IsDistinct-from_apart eqb numbers (λ i j d lt within. ne_eqb _ _ (differ i j d lt within)))
    (λ q found.
    let at' = Any-from_list_any (eqb q) numbers found in
    let same = eqb-true q at'.1 at'.4 in
    omega (arith, same, at'.3, below at'.0 at'.1 at'.2))

-- single numbers have different colours
of_singles : (m c : ℕ) (colour : List ℕ → ℕ) → IsColouring 1 m c colour → m ≤ c
of_singles m c colour is =
    let single : ℕ → ℕ = λ x. colour (x ∷ []) in
    let colours = map single (range_with_len 0 m) in
    let size = length-map-range_with_len single 0 m in
    let item = λ (i d : ℕ) (lt : i < m). get_or-map-range_with_len single 0 m i i d lt (omega arith) in
    let differ : AllPairs (λ a b. a ≢ b) colours = λ i j d lt within same.
    let far : j < m = omega (arith, within, size) in
    let near : i < m = omega (arith, lt, far) in
    is.differ i j [] (lt, (far, tt)) refl (sym (item i d near) ∙ same ∙ item j d far) in
    let below : All (λ x. x < c) colours = λ k d lt.
    let near : k < m = omega (arith, lt, size) in
    rw (item k d near) (is.below (k ∷ []) (near, tt) refl) in
    omega (arith, size, few_below colours c differ below)

pub few_numbers : (k m c : ℕ) (colour : List ℕ → ℕ) → IsColouring (suc k) m c colour → m ≤ tower k c
few_numbers zero m c colour is = of_singles m c colour is
few_numbers (suc k) m c colour is =
    rw (tower_foot k c) at (few_numbers k m (2 ^ c) (set_before m c colour) (shorter (suc k) m c colour is))
