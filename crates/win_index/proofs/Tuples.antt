-- Lists of distinct identifiers as rings, and around the places of rings.
use Rattle.std.proofs.Common.{◌≡◌, ℕ, ◌+◌, ◌-◌, ◌*◌, ◌%◌, ◌<◌, ◌≤◌, List, length, get_or, take, drop, sym, ap, ◌∙◌}
use Rattle.std.proofs.Common.{arith, length-drop, get_or-drop}
use Rattle.std.proofs.Math.Nat.{add-mod_left, mod-eq_of_lt}
use Rattle.std.proofs.lemmas.Grind.{same_number_lists}
use Rattle.std.proofs.lemmas.List.{get_or-take, length-take-le}
use Rattle.win_index.specs.Ring.{IsRing}
use Rattle.win_index.specs.Arcs.{arc, window_around, part_at}
use Rattle.win_index.specs.Windows.{IsWindow}
use Rattle.win_index.proofs.Arcs.{length_arc, item_of_arc, take-arc, drop-arc, arc_window}
use Rattle.win_index.proofs.Sizes.{window_within}

-- an arc that does not go past the last place is a part of the list
arc_part : (x : List ℕ) (offset count : ℕ) → offset + count ≤ length x →
    arc x (offset + length x) count ≡ take count (drop offset x)
arc_part x offset count le =
    let long = length_arc x (offset + length x) count in
    let rest = length-drop offset x in
    let short = length-take-le count (drop offset x) (omega arith) in
    same_number_lists (arc x (offset + length x) count) (take count (drop offset x)) (omega arith) (λ k lt.
    let within : k < count = omega arith in
    let inside : offset + k < length x = omega arith in
    let turn : offset + length x + k ≡ length x + (offset + k) = omega arith in
    let place : (offset + length x + k) % length x ≡ offset + k = ap (λ i. i % length x) turn
    ∙ add-mod_left (length x) (offset + k) ∙ mod-eq_of_lt inside in
    item_of_arc x (offset + length x) count k 0 within
    ∙ ap (λ i. get_or x i 0) place
    ∙ sym (get_or-drop offset x k 0)
    ∙ sym (get_or-take count (drop offset x) k 0 within))

-- a list taken as a ring
pub tuple_ring : (m t extra : ℕ) (list : List ℕ) → 1 ≤ extra → IsWindow (2 * t + 1 + extra) m list
    → IsRing m t list × (window_around list t t ≡ part_at t 0 list)
    × ((step : ℕ) → step ≤ extra → window_around list t (t + step) ≡ part_at t step list)
tuple_ring m t extra list some window =
    let size = window.size in
    let few = window_within (2 * t + 1 + extra) m list window in
    let first : t + length list - t ≡ 0 + length list = omega arith in (
      record { long = omega arith; short = omega arith; below = window.below; distinct = window.distinct },
      ap (λ i. arc list i (2 * t + 1)) first ∙ arc_part list 0 (2 * t + 1) (omega arith),
      λ step le.
          let later : t + step + length list - t ≡ step + length list = omega arith in
          ap (λ i. arc list i (2 * t + 1)) later ∙ arc_part list step (2 * t + 1) (omega arith),
    )

-- a list around a place of a ring
pub ring_tuple : (m t extra place : ℕ) (ring : List ℕ) → IsRing m t ring → 2 * t + 1 + extra ≤ length ring
    → let list = arc ring (place + length ring - t) (2 * t + 1 + extra) in
    IsWindow (2 * t + 1 + extra) m list × (part_at t 0 list ≡ window_around ring t place)
    × ((step : ℕ) → step ≤ extra → part_at t step list ≡ window_around ring t (place + step))
ring_tuple m t extra place ring is long =
    let start = place + length ring - t in
    let count = 2 * t + 1 + extra in (
      arc_window m t start count ring is long,
      take-arc ring start count (2 * t + 1) (omega arith),
      λ step le.
          let later : start + step ≡ place + step + length ring - t = omega arith in
          ap (take (2 * t + 1)) (drop-arc ring start count step (omega arith))
          ∙ take-arc ring (start + step) (count - step) (2 * t + 1) (omega arith)
          ∙ ap (λ i. arc ring i (2 * t + 1)) later,
    )
