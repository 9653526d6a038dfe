-- Orders of numbers: what a window with one more number lacks, and the window that follows.
use Rattle.std.proofs.Common.{◌≡◌, ◌≢◌, ◌⊎◌, ℕ, zero, suc, ◌+◌, ◌-◌, ◌*◌, ◌<◌, ◌≤◌, true, false, cond, not, eqb, List}
use Rattle.std.proofs.Common.{[], ◌∷◌, ◌++◌, length, get_or, take, drop, set, filter, slice_get, Some, refl, sym, ap}
use Rattle.std.proofs.Common.{subst, ◌∙◌, arith, add-one, append_assoc, length-append, ⊎_elim, inl, inr}
use Rattle.std.specs.List.{range_with_len, remove}
use Rattle.std.proofs.lemmas.Bool.{not_from_false, eq-eqb, ne_eqb, cases_lt}
use Rattle.std.proofs.Math.Nat.{suc-mul}
use Rattle.std.proofs.lemmas.List.{take_at, drop_at, set_at, take_more, take_more_set, take_all, take-take}
use Rattle.std.proofs.lemmas.List.{take-append-drop, drop_more, get_or-take, take-append-le, length-take, length-drop}
use Rattle.std.proofs.lemmas.List.{append_cancel_left, append-nil, get_or-drop, get_or_at, get_or-set_same}
use Rattle.std.proofs.lemmas.List.{get_or-set_other, nil_from_length}
use Rattle.std.proofs.lemmas.List.Folds.{list_any-append}
use Rattle.std.proofs.lemmas.Option.{slice_get-get_or, slice_get_within, same_Some}
use Rattle.win_index.specs.Windows.{is_used, unused, windows, IsWindow}
use Rattle.win_index.proofs.Windows.{slice_get-append_right, lacks, unused_at, push_window, window_from_parts, length-windows, free_at, unused_is, unused_left, unused_split, unused_suc, window_take, bucket_of}
use Rattle.table_text.specs.Orders.{IsOrder, IsLater, IsFollowedBy, IsStep, ArePlaces, place_of}

-- ---- one number more

-- a list with one more number lacks the others that it lacked
lacks_push : (list : List ℕ) (x y : ℕ) →
    (x ≢ y → lacks (list ++ x ∷ []) y ≡ lacks list y) × (x ≡ y → lacks (list ++ x ∷ []) y ≡ false)
lacks_push list x y =
    let more = list_any-append (λ z. eqb z y) list (x ∷ []) in (
      λ other.
          let none = ne_eqb x y other in
          rw (more, none) (grind arith),
      λ same.
          let own = eq-eqb x y same in
          rw (more, own) (grind arith),
    )

lacks_range : (list : List ℕ) (x a n : ℕ) → (x < a) ⊎ (a + n ≤ x)
    → filter (lacks (list ++ x ∷ [])) (range_with_len a n) ≡ filter (lacks list) (range_with_len a n)
lacks_range list x a zero out = refl
lacks_range list x a (suc n) out =
    let rest = lacks_range list x (a + 1) n (⊎_elim (λ lt. inl (omega arith)) (λ le. inr (omega arith)) out) in
    let here = (lacks_push list x a).0 (λ e. ⊎_elim (λ lt. absurd (omega arith)) (λ le. absurd (omega arith)) out) in
    rw (here, rest)

-- the numbers above x that a list lacks
abbrev above : ℕ → List ℕ → ℕ → List ℕ
above m list x = filter (lacks list) (range_with_len (x + 1) (m - (x + 1)))

-- a number that the list lacks stands between those below it and those above it
unused_parts : (m x : ℕ) (list : List ℕ) → x < m → is_used list x ≡ false →
    unused m list ≡ unused x list ++ x ∷ above m list x
unused_parts m x list lt free =
    let split = unused_split list x m (omega arith) in
    let more : m - x ≡ suc (m - (x + 1)) = omega arith in
    rw (more, not_from_false (is_used list x) free) at split

-- with that number the list lacks the others
unused_without : (m x : ℕ) (list : List ℕ) → x < m → unused m (list ++ x ∷ []) ≡ unused x list ++ above m list x
unused_without m x list lt =
    let split = unused_split (list ++ x ∷ []) x m (omega arith) in
    let more : m - x ≡ suc (m - (x + 1)) = omega arith in
    let own = (lacks_push list x x).1 refl in
    let below = lacks_range list x 0 x (inr (omega arith)) in
    let over = lacks_range list x (x + 1) (m - (x + 1)) (inl (omega arith)) in
    rw (more, own, below, over) at split

-- the same, from the numbers that the list lacks
pub record IsLacked (m x : ℕ) (list before after : List ℕ) : Type 0 where
  pub below : x < m
  pub free : is_used list x ≡ false
  pub lower : before ≡ unused x list
  pub others : unused m (list ++ x ∷ []) ≡ before ++ after

pub lacked : (m x : ℕ) (list before after : List ℕ) → unused m list ≡ before ++ x ∷ after →
    IsLacked m x list before after
lacked m x list before after all =
    let item : slice_get (unused m list) (length before) ≡ Some x = ap (λ l. slice_get l (length before)) all
    ∙ slice_get-append_right before (x ∷ after) (length before) 0 (omega arith) in
    let own = unused_is list m (length before) x item in
    let parts = sym all ∙ unused_parts m x list own.below own.free in
    let front : before ≡ unused x list =
    sym (take_at before (x ∷ after) (length before) refl) ∙ ap (take (length before)) parts
    ∙ take_at (unused x list) (x ∷ above m list x) (length before) own.rank_is in
    let rest : x ∷ after ≡ x ∷ above m list x = append_cancel_left before (x ∷ after) (x ∷ above m list x)
    (parts ∙ ap (λ l. l ++ x ∷ above m list x) (sym front)) in
    record {
      below = own.below;
      free = own.free;
      lower = front;
      others = unused_without m x list own.below ∙ ap (λ l. l ++ above m list x) (sym front)
          ∙ ap (λ l. before ++ drop 1 l) (sym rest);
    }

-- a window with a number that it lacks, followed by the others that it lacks
pub order_with : (k m x : ℕ) (front before after : List ℕ) → IsWindow k m front → unused m front ≡ before ++ x ∷ after
    → IsOrder (k + 1) m (front ++ x ∷ (before ++ after))
order_with k m x front before after window all =
    let size = window.size in
    let is = lacked m x front before after all in
    let more : suc k ≡ k + 1 = omega arith in
    let longer : IsWindow (k + 1) m (front ++ x ∷ []) = rw more at (push_window k m x front window is.below is.free) in
    let whole : front ++ x ∷ (before ++ after) ≡ (front ++ x ∷ []) ++ (before ++ after) =
    sym (append_assoc front (x ∷ []) (before ++ after)) in
    let first = take_at (front ++ x ∷ []) (before ++ after) (k + 1) longer.size in
    let last = drop_at (front ++ x ∷ []) (before ++ after) (k + 1) longer.size in
    let free = unused_left window in
    let sum = ap length all ∙ length-append before (x ∷ after) in
    let both = length-append before after in
    rw whole (record {
      size = omega (arith, length-append (front ++ x ∷ []) (before ++ after), longer.size);
      window = rw first longer;
      rest = rw (first, last) (sym is.others);
    })

-- the first number that a window lacks is added to it
pub grown : (k m : ℕ) (order : List ℕ) → k < m → IsOrder k m order
    → IsOrder (k + 1) m order × (take (k + 1) order ≡ take k order ++ get_or order k 0 ∷ [])
    × (unused m (take k order) ≡ get_or order k 0 ∷ drop (k + 1) order)
grown k m order lt is =
    let z : ℕ = get_or order k 0 in
    let long : k < length order = omega (arith, is.size) in
    let rest = drop_more order k 0 long in
    let all = sym is.rest ∙ rest in
    let with_z = order_with k m z (take k order) [] (drop (k + 1) order) is.window all in
    let whole : take k order ++ z ∷ drop (k + 1) order ≡ order = ap (λ l. take k order ++ l) (sym rest)
    ∙ take-append-drop k order in
    (rw whole at with_z, take_more order k 0 long, all)

-- a window, followed by the numbers that it lacks
pub order_of : (k m : ℕ) (front order : List ℕ) → IsWindow k m front → order ≡ front ++ unused m front →
    IsOrder k m order × (take k order ≡ front)
order_of k m front order window whole =
    let first : take k order ≡ front = ap (take k) whole ∙ take_at front (unused m front) k window.size in
    let free = unused_left window in (
      record {
        size = omega (arith, ap length whole, length-append front (unused m front), free, window.size);
        window = rw first window;
        rest = ap (drop k) whole ∙ drop_at front (unused m front) k window.size ∙ ap (unused m) (sym first);
      },
      first,
    )

-- ---- the parts of an order

-- an order is its window's prefix, the window's last number, and the numbers below and above that one which both lack
record HasParts (k m : ℕ) (order front low high : List ℕ) (x : ℕ) : Type 0 where
  pub whole : order ≡ front ++ x ∷ (low ++ high)
  pub first : take (k + 1) order ≡ front ++ x ∷ []
  pub rest : drop (k + 1) order ≡ low ++ high
  pub within : k < m
  pub window : IsWindow k m front
  pub all : unused m front ≡ low ++ x ∷ high

parts : (k m : ℕ) (order : List ℕ) → IsOrder (k + 1) m order
    → (high : List ℕ) × HasParts k m order (take k order) (unused (get_or order k 0) (take k order)) high
    (get_or order k 0)
parts k m order is =
    let x : ℕ = get_or order k 0 in
    let front : List ℕ = take k order in
    let size = is.window.size in
    let long : k < length order = omega (arith, length-take (k + 1) order) in
    let whole = take-take k (k + 1) order (omega arith) in
    let window = rw whole at (window_take (k + 1) m k (take (k + 1) order) (omega arith) is.window) in
    let last : get_or (take (k + 1) order) k 0 ≡ x = get_or-take (k + 1) order k 0 (omega arith) in
    let below : x < m = rw last at (is.window.below k 0 (omega arith)) in
    let free : is_used front x ≡ false =
    rw (whole, last) at (free_at (take (k + 1) order) k is.window.distinct (omega arith)) in
    let all = unused_parts m x front below free in
    let more = take_more order k 0 long in
    let rest : drop (k + 1) order ≡ unused x front ++ above m front x = rw more at is.rest
    ∙ unused_without m x front below in (
      above m front x,
      record {
        whole = sym (take-append-drop k order) ∙ ap (λ l. front ++ l) (drop_more order k 0 long ∙ ap (λ l. x ∷ l) rest);
        first = more;
        rest = rest;
        within = omega (arith, is.size);
        window = window;
        all = all;
      },
    )

-- the last number of the window is the largest that its prefix lacks
at_end : (k m : ℕ) (order : List ℕ) → IsOrder (k + 1) m order → length order ≤ place_of k order
    → HasParts k m order (take k order) (unused (get_or order k 0) (take k order)) [] (get_or order k 0)
at_end k m order is full =
    let of = (parts k m order is).1 in
    let high = (parts k m order is).0 in
    let low = unused (get_or order k 0) (take k order) in
    let none =
    nil_from_length high (omega
    (arith, ap length of.rest, length-append low high, length-drop (k + 1) order, full)) in
    subst (λ l. HasParts k m order (take k order) low l (get_or order k 0)) none of

-- ---- the window that follows

-- the item after the first part of a list
item_after : (before after : List ℕ) (x : ℕ) → slice_get (before ++ x ∷ after) (length before) ≡ Some x
item_after before after x = slice_get-append_right before (x ∷ after) (length before) 0 (omega arith)

-- the parts of a window from its prefix and its last number, which is at this position among those that the prefix
-- lacks
record Ends (k m n i : ℕ) (front : List ℕ) : Type 0 where
  place : ℕ
  front_at : slice_get (windows k m) place ≡ Some front
  number : n ≡ place * (m - k) + i

ends : (k m n i x : ℕ) (front : List ℕ) → slice_get (windows (k + 1) m) n ≡ Some (front ++ x ∷ []) →
    slice_get (unused m front) i ≡ Some x → Ends k m n i front
ends k m n i x front item at' =
    let of = bucket_of k m n (front ++ x ∷ []) item in
    let size : length front ≡ k = omega (arith, length-append front (x ∷ []), of.is.size) in
    let first : take k (front ++ x ∷ []) ≡ front = take_at front (x ∷ []) k size in
    let last : get_or (front ++ x ∷ []) k 0 ≡ x = get_or_at front x [] 0 k size in
    let here = unused_is front m i x at' in
    record {
      place = of.number;
      front_at = of.front_at ∙ ap Some first;
      number = of.number_is ∙ ap (λ r. of.number * (m - k) + r) ((λ j. length (unused (last j) (first j)))
          ∙ here.rank_is);
    }

-- a window and that with a later number that its prefix lacks
pub later_here : (count k m i x y : ℕ) (front : List ℕ) → slice_get (unused m front) i ≡ Some x →
    slice_get (unused m front) (i + count) ≡ Some y
    → IsLater count (k + 1) m (front ++ x ∷ []) (front ++ y ∷ [])
later_here count k m i x y front at_x at_y n item more =
    let step : suc k ≡ k + 1 = omega arith in
    let of = ends k m n i x front item at_x in
    let number : of.place * (m - k) + (i + count) ≡ n + count = omega (arith, of.number) in
    rw (number, step) at (window_from_parts k m of.place (i + count) y front of.front_at at_y)

-- the last window with a prefix is followed by the first one with the next prefix
pub followed_later : (k m i x z : ℕ) (front later : List ℕ) → i + 1 ≡ m - k → slice_get (unused m front) i ≡ Some x
    → IsFollowedBy k m front later → slice_get (unused m later) 0 ≡ Some z →
    IsFollowedBy (k + 1) m (front ++ x ∷ []) (later ++ z ∷ [])
followed_later k m i x z front later full at_x next least n item more =
    let step : suc k ≡ k + 1 = omega arith in
    let of = ends k m n i x front item at_x in
    let turned : (of.place + 1) * (m - k) ≡ of.place * (m - k) + (m - k) = rw add-one (suc-mul of.place (m - k)) in
    let number : (of.place + 1) * (m - k) + 0 ≡ n + 1 = omega (arith, of.number) in
    let count : length (windows (k + 1) m) ≡ length (windows k m) * (m - k) =
    rw step at (length-windows (suc k) m) ∙ ap (λ c. c * (m - k)) (sym (length-windows k m)) in
    let here = slice_get_within (windows k m) of.place front of.front_at in
    let within : of.place + 1 < length (windows k m) =
    ⊎_elim
    (λ (lt : of.place + 1 < length (windows k m)). lt)
    (λ (le : length (windows k m) ≤ of.place + 1).
    let all : length (windows k m) ≡ of.place + 1 = omega arith in
    absurd (omega (arith, ap (λ w. w * (m - k)) all, count, more)))
    (cases_lt (of.place + 1) (length (windows k m))) in
    rw (number, step) at (window_from_parts k m (of.place + 1) 0 z later (next of.place of.front_at within) least)

-- ---- one step

-- the step to a window with the same prefix and another last number, and the place of that one
pub record IsSwap (k m : ℕ) (old new : List ℕ) : Type 0 where
  pub step : IsStep (k + 1) m old new
  pub kept : take k new ≡ take k old
  pub place : place_of k new ≡ place_of k old + 1

-- the last number of the window is exchanged for the first larger one
pub swapped : (k m : ℕ) (old new : List ℕ) → IsOrder (k + 1) m old → place_of k old < length old
    → new ≡ set (set old k (get_or old (place_of k old) 0)) (place_of k old) (get_or old k 0) → IsSwap k m old new
swapped k m old new is within set_is =
    let high = (parts k m old is).0 in
    let of = (parts k m old is).1 in
    let front : List ℕ = take k old in
    let x : ℕ = get_or old k 0 in
    let low : List ℕ = unused x front in
    let place : ℕ = length low in
    let y : ℕ = get_or high 0 0 in
    let after : List ℕ = drop 1 high in
    let some : high ≡ y ∷ after =
    drop_more high 0 0 (omega (arith, ap length of.rest, length-append low high, length-drop (k + 1) old, within)) in
    let all : unused m front ≡ low ++ x ∷ (y ∷ after) = of.all ∙ ap (λ l. low ++ x ∷ l) some in
    let larger : get_or old (k + 1 + place) 0 ≡ y =
    sym (get_or-drop (k + 1) old place 0) ∙ ap (λ l. get_or l place 0) (of.rest ∙ ap (λ l. low ++ l) some)
    ∙ get_or_at low y after 0 place refl in
    let once : set old k y ≡ (front ++ y ∷ low) ++ y ∷ after =
    ap (λ l. set l k y) (of.whole ∙ ap (λ l. front ++ x ∷ (low ++ l)) some)
    ∙ set_at front x (low ++ y ∷ after) y k of.window.size
    ∙ sym (append_assoc front (y ∷ low) (y ∷ after)) in
    let far : length (front ++ y ∷ low) ≡ k + 1 + place =
    omega (arith, length-append front (y ∷ low), of.window.size) in
    let new_is : new ≡ front ++ y ∷ (low ++ x ∷ after) =
    set_is ∙ ap (λ z. set (set old k z) (k + 1 + place) x) larger ∙ ap (λ l. set l (k + 1 + place) x) once
    ∙ set_at (front ++ y ∷ low) y after x (k + 1 + place) far ∙ append_assoc front (y ∷ low) (x ∷ after) in
    let lower : unused m front ≡ (low ++ x ∷ []) ++ y ∷ after = all ∙ sym (append_assoc low (x ∷ []) (y ∷ after)) in
    let made = order_with k m y front (low ++ x ∷ []) after of.window lower in
    let behind = append_assoc low (x ∷ []) after in
    let first : take (k + 1) new ≡ front ++ y ∷ [] =
    ap (take (k + 1)) (new_is ∙ sym (append_assoc front (y ∷ []) (low ++ x ∷ after)))
    ∙ take_at (front ++ y ∷ []) (low ++ x ∷ after) (k + 1)
    (omega (arith, length-append front (y ∷ []), of.window.size)) in
    let kept : take k new ≡ front = ap (take k) new_is ∙ take_at front (y ∷ (low ++ x ∷ after)) k of.window.size in
    let last : get_or new k 0 ≡ y = ap (λ l. get_or l k 0) new_is
    ∙ get_or_at front y (low ++ x ∷ after) 0 k of.window.size in
    record {
      step = record {
        order = rw new_is (rw behind at made);
        next =
            rw (of.first, first) (later_here 1 k m (length low) x y front
            (ap (λ l. slice_get l (length low)) all ∙ item_after low (y ∷ after) x)
            (ap (λ l. slice_get l (length low + 1)) all
            ∙ slice_get-append_right low (x ∷ (y ∷ after)) (length low + 1) 1 (omega arith)));
      };
      kept = kept;
      place =
          let few = ap length (lacked m y front (low ++ x ∷ []) after lower).lower in
          rw (kept, last) (omega (arith, few, length-append low (x ∷ [])));
    }

-- the same, from a window's length and the place of its last number
pub swapped_at : (len place : ℕ) (old new : List ℕ) → 0 < len → len ≤ length old → IsOrder len (length old) old →
    place ≡ place_of (len - 1) old → place < length old →
    new ≡ set (set old (len - 1) (get_or old place 0)) place (get_or old (len - 1) 0)
    → IsSwap (len - 1) (length old) old new
swapped_at len place old new some within is own lt set_is =
    let k = len - 1 in
    let last : k + 1 ≡ len = omega arith in
    swapped k (length old) old new (rw last is) (subst (λ n. n < length old) own lt)
    (set_is ∙ ap (λ n. set (set old k (get_or old n 0)) n (get_or old k 0)) own)

-- the place of a number depends on those up to it
pub place_kept : (j k : ℕ) (a b : List ℕ) → j < k → take k a ≡ take k b → place_of j a ≡ place_of j b
place_kept j k a b lt same =
    let item : get_or a j 0 ≡ get_or b j 0 =
    sym (get_or-take k a j 0 lt) ∙ ap (λ l. get_or l j 0) same ∙ get_or-take k b j 0 lt in
    let front : take j a ≡ take j b =
    sym (take-take j k a (omega arith)) ∙ ap (take j) same ∙ take-take j k b (omega arith) in
    rw (item, front) refl

-- the places of the first numbers of an order, if the first k stay
pub places_kept : (k : ℕ) (old new places : List ℕ) → ArePlaces k old places → take k new ≡ take k old →
    ArePlaces k new places
places_kept k old new places are same j lt = are j lt ∙ place_kept j k old new lt (sym same)

-- the places of one more number
pub places_more : (k place : ℕ) (order places : List ℕ) → k < length places → ArePlaces k order places →
    place_of k order ≡ place
    → ArePlaces (k + 1) order (set places k place)
places_more k place order places long are own j lt =
    ⊎_elim
    (λ (before : j < k). get_or-set_other places k j place 0 (λ same. absurd (omega (arith, same))) ∙ are j before)
    (λ (from : k ≤ j).
    let same : j ≡ k = omega arith in
    rw same (get_or-set_same places k place 0 long ∙ sym own))
    (cases_lt j k)

-- the number right behind a window is the first one that it lacks
pub least_place : (k m : ℕ) (order : List ℕ) → k < m → IsOrder k m order → place_of k order ≡ k + 1
least_place k m order lt is =
    let all = (grown k m order lt is).2 in
    omega (arith, ap length (lacked m (get_or order k 0) (take k order) [] (drop (k + 1) order) all).lower)

remove_is : (xs : List ℕ) (i : ℕ) → remove xs i ≡ take i xs ++ drop (i + 1) xs
remove_is xs i = rw add-one refl

-- the last number of the window is moved behind all others, which are smaller
pub rotated : (k m : ℕ) (old new : List ℕ) → IsOrder (k + 1) m old → length old ≤ place_of k old
    → new ≡ remove old k ++ get_or old k 0 ∷ [] → IsOrder k m new × (take k new ≡ take k old)
rotated k m old new is full moved =
    let of = at_end k m old is full in
    let front : List ℕ = take k old in
    let x : ℕ = get_or old k 0 in
    let rest : drop (k + 1) old ++ x ∷ [] ≡ unused m front = ap (λ l. l ++ x ∷ []) (of.rest ∙ append-nil _)
    ∙ sym of.all in
    let whole = moved ∙ ap (λ l. l ++ x ∷ []) (remove_is old k)
    ∙ append_assoc front (drop (k + 1) old) (x ∷ []) ∙ ap (λ l. front ++ l) rest in
    order_of k m front new of.window whole

-- the next prefix is followed by the least number that it lacks
pub later : (k m : ℕ) (old new : List ℕ) → IsOrder (k + 1) m old → length old ≤ place_of k old →
    IsStep k m old new → IsStep (k + 1) m old new
later k m old new is end step =
    let of = at_end k m old is end in
    let front : List ℕ = take k old in
    let x : ℕ = get_or old k 0 in
    let low : List ℕ = unused x front in
    let more = grown k m new of.within step.order in
    let free = unused_left of.window in
    let full : length low + 1 ≡ m - k =
    omega (arith, ap length of.all, length-append low (x ∷ []), free, of.window.size) in
    record {
      order = more.0;
      next = rw (of.first, more.1) (followed_later k m (length low) x (get_or new k 0) front (take k new) full
          (ap (λ l. slice_get l (length low)) of.all ∙ item_after low [] x) step.next (ap (λ l. slice_get l 0) more.2));
    }

-- the one window of length 0 has none after it
pub only_window : (m : ℕ) (order : List ℕ) → IsOrder 0 m order → IsStep 0 m order order
only_window m order is =
    record {
      order = is;
      next = λ n item more. let one : length (windows 0 m) ≡ 1 = length-windows 0 m in
          absurd (omega arith);
    }

-- ---- the order of a window

-- the numbers after the window are those that it lacks, in turn
pub lacked_in_turn : (k m i : ℕ) (order : List ℕ) → IsOrder k m order → k + i < m →
    slice_get (unused m (take k order)) i ≡ Some (get_or order (k + i) 0)
lacked_in_turn k m i order is lt =
    ap (λ l. slice_get l i) (sym is.rest)
    ∙ slice_get-get_or (drop k order) i 0 (omega (arith, length-drop k order, is.size))
    ∙ ap Some (get_or-drop k order i 0)

-- the next number is lacked or not
pub unused_more : (id : ℕ) (list : List ℕ) → is_used list id ≡ false →
    unused (id + 1) list ≡ unused id list ++ id ∷ []
unused_more id list free =
    let next : id + 1 ≡ suc id = omega arith in
    ap (λ n. unused n list) next ∙ unused_suc list id
    ∙ ap (λ b. unused id list ++ cond b (id ∷ []) []) (not_from_false (is_used list id) free)

pub unused_same : (id : ℕ) (list : List ℕ) → is_used list id ≡ true → unused (id + 1) list ≡ unused id list
unused_same id list used =
    let next : id + 1 ≡ suc id = omega arith in
    ap (λ n. unused n list) next ∙ unused_suc list id
    ∙ ap (λ b. unused id list ++ cond (not b) (id ∷ []) []) used ∙ append-nil (unused id list)

-- the first numbers of an order that is being filled
pub first_filled : (k filled : ℕ) (front rest order : List ℕ) → length front ≡ k → k ≤ filled →
    take filled order ≡ front ++ rest → take k order ≡ front
first_filled k filled front rest order size le is =
    sym (take-take k filled order le) ∙ ap (take k) is ∙ take_at front rest k size

-- one more number of it
pub filled_more : (id filled : ℕ) (front order : List ℕ) → filled < length order → is_used front id ≡ false →
    take filled order ≡ front ++ unused id front →
    take (filled + 1) (set order filled id) ≡ front ++ unused (id + 1) front
filled_more id filled front order lt free is =
    take_more_set order filled id lt ∙ ap (λ l. l ++ id ∷ []) is ∙ append_assoc front (unused id front) (id ∷ [])
    ∙ ap (λ l. front ++ l) (sym (unused_more id front free))

-- a window and the numbers that it lacks below one more that it lacks are fewer than all
pub unused_fit : (k m id : ℕ) (front : List ℕ) → IsWindow k m front → id < m → is_used front id ≡ false →
    k + length (unused id front) < m
unused_fit k m id front window lt free =
    omega (
      arith,
      unused_left window,
      slice_get_within (unused m front) (length (unused id front)) id (unused_at front m id lt free),
    )

-- the last number of a window stands at its position among those that its prefix lacks
pub last_place : (k m last : ℕ) (window order : List ℕ) → IsWindow (k + 1) m window → IsOrder k m order →
    take k order ≡ take k window
    → last ≡ k + length (unused (get_or window k 0) (take k window)) →
    (last < m) × (take k order ++ get_or order last 0 ∷ [] ≡ window)
last_place k m last window order is ordered same place =
    let x : ℕ = get_or window k 0 in
    let long : k < length window = omega (arith, is.size) in
    let free : is_used (take k window) x ≡ false = free_at window k is.distinct long in
    let below : x < m = is.below k 0 long in
    let at' = unused_at (take k window) m x below free in
    let i : ℕ = length (unused x (take k window)) in
    let within = slice_get_within (unused m (take k window)) i x at' in
    let size = unused_left ordered.window in
    let fits : k + i < m = omega (arith, within, size, ordered.window.size, ap (λ l. length (unused m l)) same) in
    let item = sym (lacked_in_turn k m i order ordered fits) ∙ ap (λ l. slice_get (unused m l) i) same ∙ at' in
    let own : get_or order last 0 ≡ x = ap (λ n. get_or order n 0) place ∙ same_Some _ _ item in (
      omega (arith, place, fits),
      rw (same, own) (sym (take_more window k 0 long) ∙ take_all (k + 1) window (omega (arith, is.size))),
    )

-- ---- the windows of a bucket

-- a later number after the window ends a later window of the bucket
pub later_of_bucket : (count k m last : ℕ) (order : List ℕ) → IsOrder k m (take m order) → k ≤ last → last + count < m
    → IsLater count (k + 1) m (take k order ++ get_or order last 0 ∷ [])
    (take k order ++ get_or order (last + count) 0 ∷ [])
later_of_bucket count k m last order is from lt =
    let i : ℕ = last - k in
    let here : k + i ≡ last = omega arith in
    let there : k + (i + count) ≡ last + count = omega arith in
    let at_x = lacked_in_turn k m i (take m order) is (omega arith) in
    let at_y = lacked_in_turn k m (i + count) (take m order) is (omega arith) in
    let x : get_or (take m order) (k + i) 0 ≡ get_or order last 0 =
    rw here (get_or-take m order last 0 (omega arith)) in
    let y : get_or (take m order) (k + (i + count)) 0 ≡ get_or order (last + count) 0 =
    rw there (get_or-take m order (last + count) 0 lt) in
    let front : take k (take m order) ≡ take k order = take-take k m order (omega arith) in
    rw (front, x, y) at (later_here count k m i _ _ (take k (take m order)) at_x at_y)

-- the last window of a bucket is followed by the first one of the next bucket
pub next_bucket : (k m last : ℕ) (old new : List ℕ) → IsOrder k m (take m old) → k ≤ last → last + 1 ≡ m →
    IsStep k m (take m old) new
    → IsFollowedBy (k + 1) m (take k old ++ get_or old last 0 ∷ []) (take k new ++ get_or new k 0 ∷ [])
next_bucket k m last old new is from end step =
    let i : ℕ = last - k in
    let here : k + i ≡ last = omega arith in
    let none : k + 0 ≡ k = omega arith in
    let at_x = lacked_in_turn k m i (take m old) is (omega arith) in
    let at_z = lacked_in_turn k m 0 new step.order (omega arith) in
    let x : get_or (take m old) (k + i) 0 ≡ get_or old last 0 = rw here (get_or-take m old last 0 (omega arith)) in
    let front : take k (take m old) ≡ take k old = take-take k m old (omega arith) in
    rw (front, x, none) at (followed_later k m i _ _ (take k (take m old)) (take k new) (omega arith)
    at_x step.next at_z)

-- the numbers that stay, in orders of the first cells of a list
pub kept_front : (kept k m : ℕ) (old new after : List ℕ) → kept ≤ k → k ≤ m → length new ≡ m →
    take kept new ≡ take kept (take m old)
    → take kept (take k (new ++ after)) ≡ take kept (take k old)
kept_front kept k m old new after few le size same =
    take-take kept k (new ++ after) few ∙ take-append-le kept new after (omega arith) ∙ same
    ∙ take-take kept m old (omega arith)
    ∙ sym (take-take kept k old few)
