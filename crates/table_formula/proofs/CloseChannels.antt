-- The channels that are closer to a channel than a distance are consecutive.
use Rattle.std.proofs.Common.{◌≡◌, ℕ, zero, suc, ◌+◌, ◌-◌, ◌<◌, ◌≤◌, ◌⊎◌, true, false, [], ◌∷◌, ◌++◌, length, min, refl}
use Rattle.std.proofs.Common.{sym, ap, ◌∙◌, arith, add-one, ltb, cond, length-append, append-nil, ⊎_elim, inl, inr}
use Rattle.std.specs.Int.{abs_diff}
use Rattle.std.proofs.lemmas.Bool.{lt-ltb, ltb-true, ltb-false}
use Rattle.table_formula.proofs.Truth.{truth}
use Rattle.table_formula.specs.Formula.{close_to}
use Rattle.table_formula.proofs.ClauseLists.{close_more}

-- whether a number is below another
is_below : (a b : ℕ) → ((ltb a b ≡ true) × (a < b)) ⊎ ((ltb a b ≡ false) × (b ≤ a))
is_below a b =
    ⊎_elim (λ (h : ltb a b ≡ true). inl (h, ltb-true a b h))
    (λ (h : ltb a b ≡ false). inr (h, ltb-false a b h)) (truth (ltb a b))

-- a further channel that is close
pub close_more_in : (n step distance first : ℕ) → first + 1 - distance ≤ n → n < first + distance
    → close_to (n + 1) step distance first ≡ close_to n step distance first
    ++ record { step = step; first = first; second = n } ∷ []
close_more_in n step distance first from below =
    let close : ltb (abs_diff first n) distance ≡ true = lt-ltb (abs_diff first n) distance (omega arith) in
    close_more n step distance first
    ∙ ap (λ b. close_to n step distance first
    ++ cond b (record { step = step; first = first; second = n } ∷ []) []) close

-- a further channel that is not close
close_same : (n step distance first : ℕ) → (distance ≤ abs_diff first n) →
    close_to (n + 1) step distance first ≡ close_to n step distance first
close_same n step distance first far =
    ⊎_elim
    (λ (h : (ltb (abs_diff first n) distance ≡ true) × (abs_diff first n < distance)). absurd (omega (arith, h.1)))
    (λ (h : (ltb (abs_diff first n) distance ≡ false) × (distance ≤ abs_diff first n)).
    close_more n step distance first
    ∙ ap (λ b. close_to n step distance first
    ++ cond b (record { step = step; first = first; second = n } ∷ []) []) h.0
    ∙ append-nil (close_to n step distance first))
    (is_below (abs_diff first n) distance)

-- the channels before the first close one
pub close_before : (n step distance first : ℕ) → n ≤ first + 1 - distance → close_to n step distance first ≡ []
close_before zero step distance first le = refl
close_before (suc n) step distance first le =
    ap (λ k. close_to k step distance first) (sym (add-one n)) ∙ close_same n step distance first (omega arith)
    ∙ close_before n step distance first (omega arith)

-- the channels after the last close one
close_after : (n step distance first k : ℕ) → first + distance ≤ n →
    close_to (n + k) step distance first ≡ close_to n step distance first
close_after n step distance first zero le = let e : n + zero ≡ n = omega arith in
    ap (λ k. close_to k step distance first) e
close_after n step distance first (suc k) le =
    let e : n + suc k ≡ n + k + 1 = omega arith in
    ap (λ k. close_to k step distance first) e ∙ close_same (n + k) step distance first (omega arith)
    ∙ close_after n step distance first k le

same_after : (m n step distance first : ℕ) → first + distance ≤ m → first + distance ≤ n →
    close_to m step distance first ≡ close_to n step distance first
same_after m n step distance first a b =
    let d : ℕ = first + distance in
    let em : m ≡ d + (m - d) = omega arith in
    let en : n ≡ d + (n - d) = omega arith in
    ap (λ k. close_to k step distance first) em ∙ close_after d step distance first (m - d) (omega arith)
    ∙ sym (close_after d step distance first (n - d) (omega arith)) ∙ ap (λ k. close_to k step distance first) (sym en)

-- the close channels end before `end`
pub close_whole : (channels step distance first second : ℕ) → first < channels →
    min channels (first + distance) ≤ second
    → (first + 1 - distance ≤ min channels (first + distance) → second ≤ min channels (first + distance))
    → close_to second step distance first ≡ close_to channels step distance first
close_whole channels step distance first second lt from below =
    ⊎_elim
    (λ (h : (ltb channels (first + distance) ≡ true) × (channels < first + distance)).
    let few = h.1 in
    let e : second ≡ channels = omega arith in ap (λ k. close_to k step distance first) e)
    (λ (h : (ltb channels (first + distance) ≡ false) × (first + distance ≤ channels)).
    let many = h.1 in same_after second channels step distance first (omega arith) many)
    (is_below channels (first + distance))

-- the number of close channels
pub close_length : (n step distance first : ℕ) →
    length (close_to n step distance first) ≡ min n (first + distance) - (first + 1 - distance)
close_length zero step distance first = omega arith
close_length (suc n) step distance first =
    let e : length (close_to (suc n) step distance first) ≡ length (close_to (n + 1) step distance first) =
    ap (λ k. length (close_to k step distance first)) (sym (add-one n)) in
    let before = close_length n step distance first in
    ⊎_elim
    (λ (h : (ltb (abs_diff first n) distance ≡ true) × (abs_diff first n < distance)).
    let close = h.1 in
    let more = close_more_in n step distance first (omega arith) (omega arith) in
    omega (
      arith,
      e,
      ap length more,
      length-append (close_to n step distance first) (record { step = step; first = first; second = n } ∷ []),
      before,
    ))
    (λ (h : (ltb (abs_diff first n) distance ≡ false) × (distance ≤ abs_diff first n)).
    let far = h.1 in omega (arith, e, ap length (close_same n step distance first far), before))
    (is_below (abs_diff first n) distance)
