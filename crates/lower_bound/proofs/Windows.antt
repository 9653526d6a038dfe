-- Rising lists are windows, and channels of windows that differ between neighbours are a colouring of them.
use Rattle.std.proofs.Common.{◌≡◌, ◌≢◌, ℕ, zero, suc, ◌+◌, ◌*◌, ◌<◌, ◌≤◌, ◌++◌, ◌∷◌, [], List, length, get_or, take}
use Rattle.std.proofs.Common.{drop, All, AllPairs, sym, ap, ◌∙◌, arith, length-append}
use Rattle.std.proofs.lemmas.List.{take_all}
use Rattle.std.proofs.lemmas.List.Elements.{All-nil, All-cons}
use Rattle.std.proofs.Math.Seq.{take-append_seam}
use Rattle.win_index.specs.Arcs.{part_at}
use Rattle.win_index.specs.Windows.{IsWindow}
use Rattle.win_index.specs.Laws.{TuplesAreRings}
use Rattle.lower_bound.specs.Laws.{WindowsNeedChannels}
use Rattle.lower_bound.proofs.Bound.{few_numbers}
use Rattle.lower_bound.proofs.Colourings.{first_or, Rises}

rises_below : (m : ℕ) (list : List ℕ) → Rises m list → All (λ x. x < m) list × (first_or m list ≤ m)
rises_below m [] rises = (All-nil (λ x. x < m), omega arith)
rises_below m (x ∷ list) rises =
    let rest = rises_below m list rises.1 in
    let lt : x < m = omega (arith, rest.1, rises.0) in
    (All-cons (λ x. x < m) x list lt rest.0, omega (arith, lt))

-- the first number is the least one
rises_from : (m : ℕ) (list : List ℕ) → Rises m list → (k d : ℕ) → k < length list → first_or m list ≤ get_or list k d
rises_from m [] rises k d lt = absurd (omega (arith, lt))
rises_from m (x ∷ list) rises zero d lt = omega arith
rises_from m (x ∷ list) rises (suc k) d lt = omega (arith, rises_from m list rises.1 k d (omega (arith, lt)), rises.0)

rises_distinct : (m : ℕ) (list : List ℕ) → Rises m list → AllPairs (λ a b. a ≢ b) list
rises_distinct m [] rises i j d lt within same = omega (arith, within)
rises_distinct m (x ∷ list) rises i zero d lt within same = omega (arith, lt)
rises_distinct m (x ∷ list) rises zero (suc j) d lt within same =
    omega (arith, rises_from m list rises.1 j d (omega (arith, within)), rises.0, same)
rises_distinct m (x ∷ list) rises (suc i) (suc j) d lt within same =
    rises_distinct m list rises.1 i j d (omega (arith, lt)) (omega (arith, within)) same

rising_window : (k m : ℕ) (list : List ℕ) → Rises m list → length list ≡ k → IsWindow k m list
rising_window k m list rises size =
    record { size = size; below = (rises_below m list rises).0; distinct = rises_distinct m list rises }

-- the first numbers of a list, and all numbers after its first
front_part : (n x : ℕ) (middle rest : List ℕ) → suc (length middle) ≡ n → take n (x ∷ middle ++ rest) ≡ x ∷ middle
front_part n x middle rest size = ap (λ k. take k (x ∷ middle ++ rest)) (sym size) ∙ take-append_seam (x ∷ middle) rest

rest_part : (n x : ℕ) (list : List ℕ) → length list ≡ n → take n (drop 1 (x ∷ list)) ≡ list
rest_part n x list size = take_all n list (omega (arith, size))

pub need_channels : TuplesAreRings → WindowsNeedChannels
need_channels tuples m t c channel below differ =
    few_numbers (2 * t) m c channel (record {
      below = λ list rises size. below list (rising_window (2 * t + 1) m list rises (omega (arith, size)));
      differ = λ x y middle rises size same.
          let rest : List ℕ = middle ++ y ∷ [] in
          let long = length-append middle (y ∷ []) in
          let len : length rest ≡ 2 * t + 1 = omega (arith, size, long) in
          let ring = tuples m t 1 (x ∷ rest) (omega arith)
          (rising_window (2 * t + 1 + 1) m (x ∷ rest) rises (omega (arith, len))) in
          let first : part_at t 0 (x ∷ rest) ≡ x ∷ middle =
          front_part (2 * t + 1) x middle (y ∷ []) (omega (arith, size)) in
          let second : part_at t 1 (x ∷ rest) ≡ rest = rest_part (2 * t + 1) x rest len in
          differ (x ∷ rest) t ring.0 (omega (arith, len))
          (ap channel (ring.1 ∙ first) ∙ same ∙ sym (ap channel (ring.2 1 (omega arith) ∙ second)));
    })
