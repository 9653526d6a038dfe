-- Rings on which the channels of places at distance one and two differ.
use Rattle.std.proofs.Common.{◌≡◌, ◌≢◌, ℕ, zero, suc, ◌+◌, ◌-◌, ◌*◌, ◌/◌, ◌%◌, ◌<◌, ◌≤◌, List, length, get_or, map}
use Rattle.std.proofs.Common.{refl, sym, ap, ◌∙◌, arith, ⊎_elim}
use Rattle.std.proofs.Math.Nat.{add-mod_left}
use Rattle.std.proofs.lemmas.Bool.{cases_lt}
use Rattle.std.proofs.lemmas.List.FromFn.{length-range_with_len}
use Rattle.std.specs.List.{range_with_len}
use Rattle.win_index.specs.Arcs.{window_around}
use Rattle.win_index.specs.Laws.{RingsHaveWindows}
use Rattle.win_index.specs.Ring.{IsRing}
use Rattle.win_index.specs.Windows.{IsWindow}
use Rattle.lower_bound.specs.Laws.{DifferNearby, RingsNeedFour, FiveNeedFive}
use Rattle.lower_bound.proofs.OddRings.{rising_ring, further_around}

-- numbers below 3 of which each differs from the next two come back after three
three_on : (a b c d : ℕ) → a < 3 → b < 3 → c < 3 → d < 3 → a ≢ b → a ≢ c → b ≢ c → b ≢ d → c ≢ d → d ≡ a
three_on a b c d a3 b3 c3 d3 ab ac bc bd cd = omega arith

in_threes : (f : ℕ → ℕ) (n k : ℕ) → ((i : ℕ) → f i < 3) → ((i : ℕ) → i < n → (f i ≢ f (i + 1)) × (f i ≢ f (i + 2)))
    → 3 * k ≤ n → f (3 * k) ≡ f 0
in_threes f n zero below differ le =
    let start : 3 * zero ≡ 0 = omega arith in
    ap f start
in_threes f n (suc k) below differ le =
    let i : ℕ = 3 * k in
    let end : 3 * suc k ≡ i + 3 = omega arith in
    let one : i + 1 + 1 ≡ i + 2 = omega arith in
    let two : i + 1 + 2 ≡ i + 3 = omega arith in
    let last : i + 2 + 1 ≡ i + 3 = omega arith in
    let first = differ i (omega (arith, le)) in
    let second = differ (i + 1) (omega (arith, le)) in
    let third = differ (i + 2) (omega (arith, le)) in
    ap f end
    ∙ three_on (f i) (f (i + 1)) (f (i + 2)) (f (i + 3)) (below i) (below (i + 1)) (below (i + 2))
    (below (i + 3)) first.0 first.1
    (λ e. second.0 (e ∙ ap f (sym one))) (λ e. second.1 (e ∙ ap f (sym two))) (λ e. third.0 (e ∙ ap f (sym last)))
    ∙ in_threes f n k below differ (omega (arith, le))

-- five numbers that differ are not all below 4
no_four : (a b c d e : ℕ) → a < 4 → b < 4 → c < 4 → d < 4 → e < 4 → a ≢ b → a ≢ c → a ≢ d → a ≢ e → b ≢ c → b ≢ d
    → b ≢ e → c ≢ d → c ≢ e → d ≢ e → ⊥
no_four a b c d e a4 b4 c4 d4 e4 ab ac ad ae bc bd be cd ce de = omega arith

module _ (windows : RingsHaveWindows) (m t c n : ℕ) (channel : List ℕ → ℕ) (long : 2 * t + 3 ≤ n) (short : n ≤ m)
    (below : (window : List ℕ) → IsWindow (2 * t + 1) m window
    → channel window < c) (differ : DifferNearby m t channel) where
  -- the ring of the first identifiers
  abbrev ring : List ℕ
  ring = range_with_len 0 n

  size : length ring ≡ n
  size = length-range_with_len 0 n

  is : IsRing m t ring
  is = rising_ring m t n (omega (arith, long)) short

  abbrev at' : ℕ → ℕ
  at' i = channel (window_around ring t i)

  at_below : (i : ℕ) → at' i < c
  at_below i = below (window_around ring t i) (windows m t t i ring is (omega arith))

  apart : (i : ℕ) → i < n → (at' i ≢ at' (i + 1)) × (at' i ≢ at' (i + 2))
  apart i lt = differ ring i is (omega (arith, size, long)) (omega (arith, size, lt))

  around : (i : ℕ) → at' (n + i) ≡ at' i
  around i =
      let turn : n + i ≡ length ring + i = omega (arith, size) in
      ap at' turn ∙ ap channel (further_around ring t i (omega (arith, size, long)))

  four : n % 3 ≢ 0 → c < 4 → ⊥
  four no_multiple few =
      let k : ℕ = n / 3 in
      let three = λ (i : ℕ). let own = at_below i in let lt : at' i < 3 = omega (arith, own, few) in lt in
      let back : at' (3 * k) ≡ at' 0 = in_threes at' n k three apart (omega arith) in
      let again = around 0 in
      ⊎_elim
      (λ (one : n % 3 < 2).
      let end : n + 0 ≡ 3 * k + 1 = omega (arith, one, no_multiple) in
      (apart (3 * k) (omega (arith, end))).0 (back ∙ sym again ∙ ap at' end))
      (λ (two : 2 ≤ n % 3).
      let end : n + 0 ≡ 3 * k + 2 = omega (arith, two) in
      (apart (3 * k) (omega (arith, end))).1 (back ∙ sym again ∙ ap at' end))
      (cases_lt (n % 3) 2)

  five : n ≡ 5 → c < 5 → ⊥
  five nodes few =
      let four = λ (i : ℕ). let own = at_below i in let lt : at' i < 4 = omega (arith, own, few) in lt in
      let turn : (i : ℕ) → at' (5 + i) ≡ at' i =
      λ i. let same : 5 + i ≡ n + i = omega (arith, nodes) in ap at' same ∙ around i in
      let zero' = apart 0 (omega (arith, nodes)) in
      let one = apart 1 (omega (arith, nodes)) in
      let two = apart 2 (omega (arith, nodes)) in
      let three = apart 3 (omega (arith, nodes)) in
      let last = apart 4 (omega (arith, nodes)) in
      no_four (at' 0) (at' 1) (at' 2) (at' 3) (at' 4) (four 0) (four 1) (four 2) (four 3) (four 4)
      zero'.0 zero'.1 (λ e. three.1 (sym e ∙ sym (turn 0))) (λ e. last.0 (sym e ∙ sym (turn 0)))
      one.0 one.1 (λ e. last.1 (sym e ∙ sym (turn 1)))
      two.0 two.1 three.0

pub need_four : RingsHaveWindows → RingsNeedFour
need_four windows m t c n channel long short no_multiple below differ =
    ⊎_elim (λ (few : c < 4). absurd (four windows m t c n channel long short below differ no_multiple few))
    (λ (enough : 4 ≤ c). enough) (cases_lt c 4)

pub need_five : RingsHaveWindows → FiveNeedFive
need_five windows m t c channel few_rounds short below differ =
    ⊎_elim (λ (few : c < 5). absurd (five windows m t c 5 channel (omega (arith, few_rounds)) short below differ refl few)) (λ (enough : 5 ≤ c). enough)
    (cases_lt c 5)
