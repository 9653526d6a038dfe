-- A window by its prefix and its last identifier, and the positions of these among the identifiers that a list lacks.
use Rattle.std.proofs.Common.{◌≡◌, ◌≢◌, ℕ, suc, ◌+◌, ◌-◌, ◌*◌, ◌/◌, ◌%◌, ◌<◌, ◌≤◌, false, nat_lt, cond, List, [], ◌∷◌}
use Rattle.std.proofs.Common.{length, get_or, take, drop, set, slice_get, Some, sym, ap, ◌∙◌, arith}
use Rattle.std.proofs.lemmas.Bool.{not-true, ne_eqb}
use Rattle.std.proofs.lemmas.List.{take_all, take_more, drop-take, take-set, get_or-set_same, length-set, length-drop}
use Rattle.std.proofs.lemmas.List.{length-take-le, get_or-drop, take_at, get_or_push}
use Rattle.std.proofs.lemmas.Nat.{div-mul-add, mod-mul-add, div-add-mod'}
use Rattle.std.proofs.lemmas.List.Elements.{All-take, All-drop}
use Rattle.win_index.specs.Buckets.{IsLastOfBucket}
use Rattle.win_index.specs.Windows.{is_used, unused, windows, IsWindow}
use Rattle.win_index.proofs.Kept.{kept_is}
use Rattle.win_index.proofs.Numbers.{window_parts}
use Rattle.win_index.proofs.Order.{one_place}
use Rattle.win_index.proofs.Positions.{free_at, front_more, front_step, window_place}
use Rattle.win_index.proofs.Unused.{lacks, lacks_both, distinct_take, distinct_drop, distinct_head, distinct_tail}
use Rattle.win_index.proofs.Unused.{counted, apart, same_order, unused_in_front, unused_at_end, length-unused}

-- consecutive numbers of a window are a window
pub slice_window : (m n d len : ℕ) (w : List ℕ) → IsWindow n m w → d + len ≤ n → IsWindow len m (take len (drop d w))
slice_window m n d len w is fits =
    let size = is.size in
    record {
      size = length-take-le len (drop d w) (omega (arith, length-drop d w));
      below = All-take (λ x. x < m) len (drop d w) (All-drop (λ x. x < m) d w is.below);
      distinct = distinct_take len (drop d w) (distinct_drop d w is.distinct);
    }

-- a window without its last identifier
pub window_front : (k l m : ℕ) (window : List ℕ) → l ≡ k + 1 → IsWindow l m window → IsWindow k m (take k window)
window_front k l m window long is = slice_window m l 0 k window is (omega arith)

-- a window with another last identifier that its prefix lacks
pub window_with :
    (k l m x : ℕ) (window : List ℕ) → l ≡ k + 1 → length window ≡ l → IsWindow k m (take k window) → x < m
    → is_used (take k window) x ≡ false → IsWindow l m (set window k x)
window_with k l m x window long size front below free =
    let inside : k < length (set window k x) = omega (arith, length-set window k x) in
    let same = take-set window k x in
    let here = get_or-set_same window k x 0 (omega arith) in
    let all = take_all (k + 1) (set window k x) (omega (arith, length-set window k x)) in
    let made = front_more k m (set window k x) inside (rw same front) (rw here below)
    (rw (here, same) free) in
    rw (← long) at (rw all at made)

-- the number of a window without its last identifier, and the position of that one among those that the others lack
pub shorter_number :
    (k m n : ℕ) (list : List ℕ) → slice_get (windows (suc k) m) n ≡ Some list
    → (slice_get (windows k m) (n / (m - k)) ≡ Some (take k list))
    × (n % (m - k) ≡ length (unused (get_or list k 0) (take k list)))
shorter_number k m n list at' =
    let parts = window_parts k m n list at' in
    let own = kept_is (lacks parts.front) m parts.rest parts.last parts.last_at in
    let size = parts.front_is.size in
    let place = ap (λ i. i / (m - k)) parts.number ∙ div-mul-add parts.place (m - k) parts.rest parts.inside in
    let rest = ap (λ i. i % (m - k)) parts.number ∙ mod-mul-add parts.place (m - k) parts.rest parts.inside in
    let took = ap (take k) parts.whole ∙ take_at parts.front (parts.last ∷ []) k size in
    let last = ap (λ l. get_or l k 0) parts.whole ∙ get_or_push parts.front parts.last 0 k size in
    (rw (place, took) parts.front_at, rw (rest, took, last) (sym own.before))

-- the position of the identifier after the first k among those that these without the first i lack
abbrev pub last_place : ℕ → ℕ → List ℕ → ℕ
last_place i k window = length (unused (get_or window k 0) (drop i (take k window)))

-- no identifier is larger than the last one if the prefix lacks no further one
pub last_of_bucket :
    (k l m : ℕ) (window : List ℕ) → l ≡ k + 1 → IsWindow l m window
    → length (unused m (take k window)) ≤ last_place 0 k window + 1 → IsLastOfBucket l m window
last_of_bucket k l m window long is few y larger =
    let size = is.size in
    let last : l - 1 ≡ k = omega arith in
    let other : IsWindow l m (set window k y) = rw last at larger in
    let here = get_or-set_same window k y 0 (omega arith) in
    let inside : k < length (set window k y) = omega (arith, length-set window k y) in
    let below : y < m = rw here at (other.below k 0 inside) in
    let free : is_used (take k window) y ≡ false =
    rw (here, take-set window k y) at (free_at (set window k y) k other.distinct inside) in
    let own = free_at window k is.distinct (omega arith) in
    rw last
    (grind (arith, counted (take k window) y m free below, counted (take k window) (get_or window k 0) y own))

-- a list without its first i elements, and the front of it
pub part_front : (i k low : ℕ) (list : List ℕ) → k ≡ i + low → take low (drop i list) ≡ drop i (take k list)
part_front i k low list all = sym (rw (← all) at (drop-take i low list))

-- lists of length j = k+1, and of length l = low+1 without their first i elements
pub record Part (i k low j l : ℕ) : Type 0 where
  pub all : k ≡ i + low
  pub long : j ≡ k + 1
  pub short : l ≡ low + 1

-- such a part of a window by its prefix and the position of its last identifier
module _ {i k low j l : ℕ} (m : ℕ) (part : Part i k low j l) where
  part_front_is : (window : List ℕ) → take low (drop i window) ≡ drop i (take k window)
  part_front_is window = part_front i k low window part.all

  part_last : (window : List ℕ) → get_or (drop i window) low 0 ≡ get_or window k 0
  part_last window = rw (← part.all) at (get_or-drop i window low 0)

  pub part_window : (window : List ℕ) → IsWindow j m window → IsWindow l m (drop i window)
  part_window window is =
      let size = is.size in
      let whole = take_all l (drop i window) (omega (arith, length-drop i window)) in
      rw whole at (slice_window m j i l window is (omega arith))

  pub part_longer :
      (n : ℕ) (window : List ℕ) → IsWindow j m window → slice_get (windows low m) n ≡ Some (drop i (take k window))
      → slice_get (windows l m) (n * (m - low) + last_place i k window) ≡ Some (drop i window)
  part_longer n window is at' =
      let own = part_window window is in
      let size = own.size in
      let step = front_step l m low n (drop i window) own (omega arith) (rw (part_front_is window) at') in
      let all = take_all (low + 1) (drop i window) (omega arith) in
      rw (all, part_last window, part_front_is window, ← part.short) at step

  pub part_shorter :
      (n : ℕ) (window : List ℕ) → slice_get (windows l m) n ≡ Some (drop i window)
      → (slice_get (windows low m) (n / (m - low)) ≡ Some (drop i (take k window)))
      × (n % (m - low) ≡ last_place i k window)
  part_shorter n window at' =
      let next : l ≡ suc low = omega arith in
      rw (part_last window, part_front_is window) at (shorter_number low m n (drop i window) (rw next at at'))

  -- two windows with the same prefix are as far apart as their last identifiers
  pub part_apart :
      (n o : ℕ) (v w : List ℕ) → take k w ≡ take k v → slice_get (windows l m) n ≡ Some (drop i v)
      → slice_get (windows l m) o ≡ Some (drop i w) → n + last_place i k w ≡ o + last_place i k v
  part_apart n o v w same at_v at_w =
      let first = part_shorter n v at_v in
      let second = part_shorter o w at_w in
      let place = one_place low m (n / (m - low)) (o / (m - low)) (drop i (take k v)) first.0 (rw same at second.0) in
      let rows = ap (λ q. q * (m - low)) place in
      omega (arith, div-add-mod' n (m - low), div-add-mod' o (m - low), first.1, second.1, rows)

  pub part_along :
      (n t : ℕ) (v w : List ℕ) → IsWindow j m w → take k w ≡ take k v → last_place i k w ≡ last_place i k v + t
      → slice_get (windows l m) n ≡ Some (drop i v) → slice_get (windows l m) (n + t) ≡ Some (drop i w)
  part_along n t v w is same further at_v =
      let own = window_place l m (drop i w) (part_window w is) in
      let there : own.0 ≡ n + t = omega (arith, part_apart n own.0 v w same at_v own.1, further) in
      rw there at own.1

-- 1 if a is below b, else 0
abbrev pub below : ℕ → ℕ → ℕ
below a b = cond (nat_lt a b) 1 0

-- the position p of the last identifier of a window of length k+1 among the e that its prefix lacks without its first
-- two identifiers, whose positions are g and h
pub record Placed (k m g h e p : ℕ) (window : List ℕ) : Type 0 where
  pub first : g ≢ p
  pub second : h ≢ p
  pub differ : g ≢ h
  pub inside : p < e
  pub first_inside : g < e
  pub second_inside : h < e
  pub all : e + k ≡ m + 2
  pub own : last_place 0 k window + below g p + below h p ≡ p
  pub middle : last_place 1 k window + below h p ≡ p
  pub first_grown : length (unused (get_or window 0 0) (drop 2 window)) + below p g ≡ g
  pub second_grown : length (unused (get_or window 1 0) (drop 2 window)) + below p h ≡ h
  pub other : (q z : ℕ) → slice_get (unused m (drop 2 (take k window))) q ≡ Some z → g ≢ q → h ≢ q
      → (z < m) × (is_used (take k window) z ≡ false) × (length (unused z (drop 2 (take k window))) ≡ q)

pub placed :
    (k j m : ℕ) (window : List ℕ) → 2 ≤ k → j ≡ k + 1 → IsWindow j m window
    → let at' = λ (y : ℕ). length (unused y (drop 2 (take k window))) in
    Placed k m (at' (get_or window 0 0)) (at' (get_or window 1 0)) (at' m) (at' (get_or window k 0)) window
placed (suc (suc k)) j m (a ∷ b ∷ list) some long is =
    let size = is.size in
    let rest : List ℕ = take k list in
    let x : ℕ = get_or list k 0 in
    let front = window_front (suc (suc k)) j m (a ∷ b ∷ list) long is in
    let shorter = distinct_tail a (b ∷ rest) front.distinct in
    let distinct = distinct_tail b rest shorter in
    let below = All-drop (λ y. y < m) 2 (a ∷ b ∷ rest) front.below in
    let free = free_at (a ∷ b ∷ list) (suc (suc k)) is.distinct (omega arith) in
    let x_a = lacks_both a x (b ∷ rest) free in
    let x_b = lacks_both b x rest x_a.1 in
    let b_a = lacks_both b a rest (distinct_head a (b ∷ rest) front.distinct) in
    let b_free = distinct_head b rest shorter in
    let whole = sym (take_more list k 0 (omega arith)) ∙ take_all (k + 1) list (omega arith) in
    record {
      first = apart rest a x b_a.1 x_b.1 x_a.0;
      second = apart rest b x b_free x_b.1 x_b.0;
      differ = apart rest a b b_a.1 b_free (λ e. b_a.0 (sym e));
      inside = counted rest x m x_b.1 (is.below (suc (suc k)) 0 (omega arith));
      first_inside = counted rest a m b_a.1 (is.below 0 0 (omega arith));
      second_inside = counted rest b m b_free (is.below 1 0 (omega arith));
      all = omega (arith, length-unused rest m distinct below, front.size);
      own = omega (
        arith,
        rw (same_order rest a x b_a.1) at (unused_in_front a x (b ∷ rest) front.distinct),
        rw (same_order rest b x b_free) at (unused_in_front b x rest shorter),
      );
      middle = rw (same_order rest b x b_free) at (unused_in_front b x rest shorter);
      first_grown = rw (same_order rest x a x_b.1, whole) at (unused_at_end a x rest distinct x_b.1);
      second_grown = rw (same_order rest x b x_b.1, whole) at (unused_at_end b x rest distinct x_b.1);
      other = λ q z at' not_first not_second.
          let kept = kept_is (lacks rest) m q z at' in
          let a_z : a ≢ z = λ e. not_first (ap (λ y. length (unused y rest)) e ∙ kept.before) in
          let b_z : b ≢ z = λ e. not_second (ap (λ y. length (unused y rest)) e ∙ kept.before) in
          (kept.below, rw (ne_eqb a z a_z, ne_eqb b z b_z) (not-true (is_used rest z) kept.passes), kept.before);
    }
placed k j m window some long is = absurd (omega (arith, some, long, is.size))
