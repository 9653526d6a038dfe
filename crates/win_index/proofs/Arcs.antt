-- The identifiers of neighbouring places of a ring.
use Rattle.std.proofs.Common.{◌≡◌, ◌≢◌, ℕ, suc, ◌+◌, ◌-◌, ◌*◌, ◌/◌, ◌%◌, ◌<◌, ◌≤◌, List, length, get_or, take, drop}
use Rattle.std.proofs.Common.{AllPairs, sym, ap, ◌∙◌, arith, length-drop, get_or-drop}
use Rattle.std.proofs.Math.Nat.{suc-mul}
use Rattle.std.proofs.lemmas.Grind.{same_number_lists}
use Rattle.std.proofs.lemmas.List.FromFn.{length-map-range_with_len, get_or-map-range_with_len, take-map-range_with_len}
use Rattle.std.proofs.lemmas.Nat.{mul-le, mod_below, div-add-mod'}
use Rattle.win_index.specs.Ring.{IsRing}
use Rattle.win_index.specs.Arcs.{arc, window_around}
use Rattle.win_index.specs.Windows.{IsWindow}

pub length_arc : (x : List ℕ) (start count : ℕ) → length (arc x start count) ≡ count
length_arc x start count = length-map-range_with_len (λ k. get_or x ((start + k) % length x) 0) 0 count

pub item_of_arc : (x : List ℕ) (start count k d : ℕ) → k < count →
    get_or (arc x start count) k d ≡ get_or x ((start + k) % length x) 0
item_of_arc x start count k d lt =
    get_or-map-range_with_len (λ i. get_or x ((start + i) % length x) 0) 0 count k k d lt (omega arith)

-- a prefix of an arc is an arc
pub take-arc : (x : List ℕ) (start count j : ℕ) → j ≤ count → take j (arc x start count) ≡ arc x start j
take-arc x start count j le = take-map-range_with_len (λ k. get_or x ((start + k) % length x) 0) 0 count j le

-- and so is a suffix
pub drop-arc : (x : List ℕ) (start count j : ℕ) → j ≤ count → drop j (arc x start count) ≡ arc x (start + j) (count - j)
drop-arc x start count j le =
    let long = length_arc x start count in
    let rest = length-drop j (arc x start count) in
    let short = length_arc x (start + j) (count - j) in
    same_number_lists (drop j (arc x start count)) (arc x (start + j) (count - j)) (omega arith) (λ k lt.
    let far : j + k < count = omega arith in
    let near : k < count - j = omega arith in
    let place : start + (j + k) ≡ start + j + k = omega arith in
    get_or-drop j (arc x start count) k 0
    ∙ item_of_arc x start count (j + k) 0 far
    ∙ ap (λ i. get_or x (i % length x) 0) place
    ∙ sym (item_of_arc x (start + j) (count - j) k 0 near))

-- two places that are less than the ring's length apart are different
places_differ : (n a b : ℕ) → a < b → b < a + n → a % n ≢ b % n
places_differ n a b lt near same =
    let later = mul-le (suc (a / n)) n (b / n) n in
    let earlier = mul-le (b / n) n (a / n) n in
    grind (arith, div-add-mod' a n, div-add-mod' b n, suc-mul (a / n) n, later, earlier)

differ_at : (x : List ℕ) (i j : ℕ) → AllPairs (λ a b. a ≢ b) x → i < length x → j < length x →
    i ≢ j → get_or x i 0 ≢ get_or x j 0
differ_at x i j distinct in_i in_j other = grind (arith, distinct i j 0, distinct j i 0)

-- as many places as a ring has, or fewer, hold a window
pub arc_window : (m t start count : ℕ) (x : List ℕ) → IsRing m t x → count ≤ length x →
    IsWindow count m (arc x start count)
arc_window m t start count x ring le =
    let n : ℕ = length x in
    let long = ring.long in
    let some : 0 < n = omega arith in
    let size = length_arc x start count in
    record {
      size = size;
      below = λ k d lt.
          let within : k < count = omega arith in
          rw (item_of_arc x start count k d within) (ring.below ((start + k) % n) 0 (mod_below (start + k) n some));
      distinct = λ i j d lt inside.
          let far : j < count = omega arith in
          let near : i < count = omega arith in
          rw (item_of_arc x start count i d near, item_of_arc x start count j d far)
          (differ_at x ((start + i) % n) ((start + j) % n) ring.distinct (mod_below (start + i) n some)
          (mod_below (start + j) n some)
          (places_differ n (start + i) (start + j) (omega arith) (omega arith)));
    }

-- the identifiers around a place of a ring are a window
pub around_window :
    (m t level place : ℕ) (x : List ℕ) → IsRing m t x → level ≤ t →
    IsWindow (2 * level + 1) m (window_around x level place)
around_window m t level place x ring le =
    let long = ring.long in
    arc_window m t (place + length x - level) (2 * level + 1) x ring (omega arith)
