-- A ring of an odd number of nodes has no two channels that neighbours take in turn.
use Rattle.std.proofs.Common.{◌≡◌, ◌≢◌, ℕ, zero, suc, ◌+◌, ◌-◌, ◌*◌, ◌%◌, ◌<◌, ◌≤◌, List, length, get_or, map, sym, ap}
use Rattle.std.proofs.Common.{◌∙◌, arith, ⊎_elim}
use Rattle.std.proofs.Math.Nat.{add-mod_left}
use Rattle.std.proofs.lemmas.Bool.{cases_lt}
use Rattle.std.proofs.lemmas.List.FromFn.{length-range_with_len, get_or-range_with_len}
use Rattle.std.specs.List.{range_with_len}
use Rattle.win_index.specs.Arcs.{window_around}
use Rattle.win_index.specs.Laws.{RingsHaveWindows}
use Rattle.win_index.specs.Ring.{IsRing}
use Rattle.lower_bound.specs.Laws.{OddRingsNeedThree}

-- two numbers below 2 that are taken in turn
in_turn : (f : ℕ → ℕ) (n k : ℕ) → ((i : ℕ) → f i < 2) → ((i : ℕ) → i < n → f i ≢ f (i + 1)) → 2 * k ≤ n
    → f (2 * k) ≡ f 0
in_turn f n zero below differ le =
    let start : 2 * zero ≡ 0 = omega arith in
    ap f start
in_turn f n (suc k) below differ le =
    let end : 2 * suc k ≡ 2 * k + 1 + 1 = omega arith in
    let first = differ (2 * k) (omega (arith, le)) in
    let second = differ (2 * k + 1) (omega (arith, le)) in
    let same : f (2 * k + 1 + 1) ≡ f (2 * k) =
    omega (arith, first, second, below (2 * k), below (2 * k + 1), below (2 * k + 1 + 1)) in
    ap f end ∙ same ∙ in_turn f n k below differ (omega (arith, le))

-- once around a ring
pub further_around : (ring : List ℕ) (t i : ℕ) → t ≤ length ring
    → window_around ring t (length ring + i) ≡ window_around ring t i
further_around ring t i le = λ j. map (λ k. get_or ring (same k j) 0) (range_with_len 0 (2 * t + 1))
  where
    same : (k : ℕ) → (length ring + i + length ring - t + k) % length ring ≡ (i + length ring - t + k) % length ring
    same k =
        let turn : length ring + i + length ring - t + k ≡ length ring + (i + length ring - t + k) = omega arith in
        ap (λ n. n % length ring) turn ∙ add-mod_left (length ring) (i + length ring - t + k)

-- the numbers from 0 on
pub rising_ring : (m t n : ℕ) → 2 * t + 2 ≤ n → n ≤ m → IsRing m t (range_with_len 0 n)
rising_ring m t n long short =
    let size = length-range_with_len 0 n in
    record {
      long = omega (arith, size, long);
      short = omega (arith, size, short);
      below = λ k d lt. omega (arith, get_or-range_with_len 0 n k d (omega (arith, lt, size)), lt, size, short);
      distinct = λ i j d lt within same.
          let far : j < n = omega (arith, within, size) in
          omega (arith, same, lt, get_or-range_with_len 0 n i d (omega (arith, lt, far)), get_or-range_with_len 0 n j d far);
    }

pub need_three : RingsHaveWindows → OddRingsNeedThree
need_three windows m t c channel long below differ =
    ⊎_elim (λ (few : c < 3). absurd (none few)) (λ (enough : 3 ≤ c). enough) (cases_lt c 3)
  where
    none : c < 3 → ⊥
    none few =
        let n : ℕ = 2 * t + 3 in
        let ring = range_with_len 0 n in
        let size = length-range_with_len 0 n in
        let is = rising_ring m t n (omega arith) long in
        let at' : ℕ → ℕ = λ i. channel (window_around ring t i) in
        let two = λ (i : ℕ). let own = below (window_around ring t i) (windows m t t i ring is (omega arith)) in
        let lt : at' i < 2 = omega (arith, own, few) in lt in
        let next = λ (i : ℕ) (lt : i < n). differ ring i is (omega (arith, lt, size)) in
        let last : 2 * suc t + 1 ≡ length ring + 0 = omega (arith, size) in
        let same = in_turn at' n (suc t) two next (omega arith) in
        differ ring (2 * suc t) is (omega (arith, size))
        (same ∙ ap channel (sym (further_around ring t 0 (omega (arith, size)))) ∙ ap at' (sym last))
