-- The next window: the next number in the last cell, or else the next prefix with its least number.
use Rattle.std.proofs.Common.{◌≡◌, ℕ, zero, suc, ◌+◌, ◌-◌, ◌*◌, ◌<◌, ◌≤◌, cond, Option, List, [], ◌∷◌, ◌++◌, length}
use Rattle.std.proofs.Common.{get_or, take, set, find, slice_get, Some, None, refl, sym, ap, ◌∙◌, arith}
use Rattle.std.proofs.Common.{length-append, add-one}
use Rattle.std.specs.List.{range_with_len}
use Rattle.std.proofs.Math.Nat.{suc-mul}
use Rattle.std.proofs.lemmas.List.{take_all, length-set, same_from_push, take_more, take_more_set, take-take}
use Rattle.std.proofs.lemmas.Option.{none-some, slice_get_within}
use Rattle.win_index.specs.Windows.{unused, windows, IsWindow}
use Rattle.win_index.specs.Buckets.{IsLastOfBucket}
use Rattle.win_index.specs.Successor.{IsNext, IsLast}
use Rattle.win_index.proofs.Kept.{kept, kept_at, kept_is, kept_suc, kept_rises}
use Rattle.win_index.proofs.Unused.{lacks, unused_at}
use Rattle.win_index.proofs.Positions.{window_place, free_at}
use Rattle.win_index.proofs.FrontPlaces.{slice_window, last_place}
use Rattle.win_index.proofs.Numbers.{window_parts, window_from_parts, windows_all, unused_left, windows_more, length-windows}

-- the first number from low on that the list lacks
abbrev pub first_lacked : ℕ → List ℕ → ℕ → Option ℕ
first_lacked m front low = find (lacks front) (range_with_len low (m - low))

-- the window in the first cells of a list, by its prefix and its last number
record PartsOf (m last n : ℕ) (list : List ℕ) : Type 0 where
  place : ℕ
  rest : ℕ
  number : n ≡ place * (m - last) + rest
  front_at : slice_get (windows last m) place ≡ Some (take last list)
  last_at : slice_get (unused m (take last list)) rest ≡ Some (get_or list last 0)

parts_of :
    (k m last n : ℕ) (list : List ℕ) → k ≡ last + 1 → last < length list
    → slice_get (windows k m) n ≡ Some (take k list) → PartsOf m last n list
parts_of k m last n list more lt at' =
    let old = take_more list last 0 lt in
    let cut = rw (more, old, add-one) at at' in
    let parts = window_parts last m n (take last list ++ get_or list last 0 ∷ []) cut in
    let same = same_from_push parts.front (take last list) parts.last (get_or list last 0) (sym parts.whole) in
    record {
      place = parts.place;
      rest = parts.rest;
      number = parts.number;
      front_at = parts.front_at ∙ ap Some same.0;
      last_at = rw (same.0, same.1) at parts.last_at;
    }

-- after a number that a list lacks comes the first one from its successor on
after :
    (m place x : ℕ) (front : List ℕ) → slice_get (unused m front) place ≡ Some x
    → slice_get (unused m front) (place + 1) ≡ first_lacked m front (x + 1)
after m place x front at' =
    let own = kept_is (lacks front) m place x at' in
    let one : cond (lacks front x) (x ∷ []) [] ≡ x ∷ [] = ap (λ b. cond b (x ∷ []) []) own.passes in
    let more = rw one at (kept_suc (lacks front) x) in
    let below = own.below in
    let before : length (kept (lacks front) (suc x)) ≡ place + 1 =
    omega (arith, ap length more, length-append (kept (lacks front) x) (x ∷ []), own.before) in
    let next : suc x ≡ x + 1 = omega arith in
    let found = rw before at (kept_at (lacks front) (suc x) m (omega arith)) in
    rw next at found

none_at : {X : Type 0} (xs : List X) (i : ℕ) → slice_get xs i ≡ None → length xs ≤ i
none_at [] i e = omega arith
none_at (x ∷ xs) zero e = absurd (none-some x (sym e))
none_at (x ∷ xs) (suc i) e = omega (arith, none_at xs i e)

-- a window without its last number
pub shorter_window : (k m last : ℕ) (list : List ℕ) → k ≡ last + 1 → IsWindow k m (take k list) →
    IsWindow last m (take last list)
shorter_window k m last list more window =
    let whole = take-take last k list (omega arith) in
    rw whole at (slice_window m k 0 last (take k list) window (omega arith))

-- the last number is followed by another that the prefix lacks
pub next_in_last_cell :
    (k m last y : ℕ) (list : List ℕ) → k ≡ last + 1 → last < length list
    → first_lacked m (take last list) (get_or list last 0 + 1) ≡ Some y
    → IsNext k m (take k list) (take k (set list last y))
next_in_last_cell k m last y list more lt found n at' =
    let parts = parts_of k m last n list more lt at' in
    let next_at = after m parts.rest (get_or list last 0) (take last list) parts.last_at ∙ found in
    let place : parts.place * (m - last) + (parts.rest + 1) ≡ n + 1 = omega (arith, parts.number) in
    let made = window_from_parts last m parts.place (parts.rest + 1) y (take last list) parts.front_at next_at in
    rw (more, take_more_set list last y lt, add-one) (rw place at made)

-- the last number is the greatest that the prefix lacks
record IsAtEnd (m last n : ℕ) (list : List ℕ) : Type 0 where
  place : ℕ
  front_at : slice_get (windows last m) place ≡ Some (take last list)
  number : n + 1 ≡ (place + 1) * (m - last)

at_end :
    (k m last n : ℕ) (list : List ℕ) → k ≡ last + 1 → last < length list
    → first_lacked m (take last list) (get_or list last 0 + 1) ≡ None
    → slice_get (windows k m) n ≡ Some (take k list) → IsAtEnd m last n list
at_end k m last n list more lt none at' =
    let front = take last list in
    let parts = parts_of k m last n list more lt at' in
    let free = unused_left (windows_all last m parts.place front parts.front_at) in
    let long = none_at (unused m front) (parts.rest + 1)
    (after m parts.rest (get_or list last 0) front parts.last_at ∙ none) in
    let short = slice_get_within (unused m front) parts.rest (get_or list last 0) parts.last_at in
    let full : parts.rest + 1 ≡ m - last = omega arith in
    let turned : (parts.place + 1) * (m - last) ≡ parts.place * (m - last) + (m - last) =
    rw add-one (suc-mul parts.place (m - last)) in
    record { place = parts.place; front_at = parts.front_at; number = omega (arith, parts.number) }

-- the next prefix, with the least number that it lacks
pub next_with_later_front :
    (k m last y : ℕ) (list later : List ℕ) → k ≡ last + 1 → last < length list → length list ≡ length later
    → first_lacked m (take last list) (get_or list last 0 + 1) ≡ None → IsNext last m (take last list) (take last later)
    → slice_get (unused m (take last later)) 0 ≡ Some y → IsNext k m (take k list) (take k (set later last y))
next_with_later_front k m last y list later more lt same none next least n at' =
    let end = at_end k m last n list more lt none at' in
    let number : (end.place + 1) * (m - last) + 0 ≡ n + 1 = omega (arith, end.number) in
    let made = window_from_parts last m (end.place + 1) 0 y (take last later) (next end.place end.front_at) least in
    rw (more, take_more_set later last y (omega arith), add-one) (rw number at made)

-- there is no next prefix
pub last_with_last_front :
    (k m last : ℕ) (list : List ℕ) → k ≡ last + 1 → last < length list
    → first_lacked m (take last list) (get_or list last 0 + 1) ≡ None
    → IsLast last m (take last list) → IsLast k m (take k list)
last_with_last_front k m last list more lt none all n at' =
    let end = at_end k m last n list more lt none at' in
    rw more (end.number ∙ ap (λ p. p * (m - last)) (all end.place end.front_at) ∙ sym (windows_more last m))

-- the only window of length zero is the last
pub last_of_none : (k m : ℕ) (list : List ℕ) → k ≡ 0 → IsLast k m list
last_of_none k m list empty n at' =
    let within = slice_get_within (windows k m) n list at' in
    let one : length (windows k m) ≡ 1 = rw empty (length-windows zero m) in
    omega arith

-- the next window is a window
pub next_is_window : (k m : ℕ) (window next : List ℕ) → IsWindow k m window → IsNext k m window next → IsWindow k m next
next_is_window k m window next own after' =
    let place = window_place k m window own in
    windows_all k m (place.0 + 1) next (after' place.0 place.1)

-- a later prefix lacks some number if there are more numbers than it has
pub later_lacks : (last m : ℕ) (front later : List ℕ) → last < m → IsWindow last m front →
    IsNext last m front later → 0 < length (unused m later)
later_lacks last m front later lt window next =
    omega (arith, unused_left (next_is_window last m front later window next))

-- the next window of a bucket has the next number that the prefix lacks
module _ (k m last : ℕ) (list : List ℕ) (more : k ≡ last + 1) (window : IsWindow k m list) where
  next_lacked : slice_get (unused m (take last list)) (last_place 0 last list + 1)
      ≡ first_lacked m (take last list) (get_or list last 0 + 1)
  next_lacked =
      let size = window.size in
      let lt : last < length list = omega arith in
      after m (last_place 0 last list) (get_or list last 0) (take last list)
      (unused_at (take last list) m (get_or list last 0) (window.below last 0 lt)
      (free_at list last window.distinct lt))

  next_in_bucket :
      (y : ℕ) → first_lacked m (take last list) (get_or list last 0 + 1) ≡ Some y
      → IsNext k m list (set list last y) × IsWindow k m (set list last y)
  next_in_bucket y found =
      let size = window.size in
      let all = take_all k list (omega arith) in
      let all_set = take_all k (set list last y) (omega (arith, length-set list last y)) in
      let next = rw (all, all_set) at (next_in_last_cell k m last y list more (omega arith) found) in
      (next, next_is_window k m list (set list last y) window next)

  -- the prefix of the last window of a bucket lacks no number after the last one
  bucket_ends : IsLastOfBucket k m list → first_lacked m (take last list) (get_or list last 0 + 1) ≡ None
  bucket_ends greatest =
      let before : k - 1 ≡ last = omega arith in
      let x : ℕ = get_or list last 0 in
      let front : List ℕ = take last list in
      elim (first_lacked m front (x + 1)) as (λ o. first_lacked m front (x + 1) ≡ o → o ≡ None) [
        | None ↦ λ found. refl
        | Some y ↦ λ found.
            let kept = kept_is (lacks front) m (length (unused x front) + 1) y (next_lacked ∙ found) in
            let within : y ≤ x = rw before at (greatest y (rw before (next_in_bucket y found).1)) in
            absurd (omega (arith, kept.before, kept_rises (lacks front) y x within))
      ] refl

  -- the window after the last one of a bucket is the next prefix with its least number
  pub next_bucket :
      (later : List ℕ) (y : ℕ) → length later ≡ k → IsLastOfBucket k m list
      → IsNext last m (take last list) (take last later)
      → slice_get (unused m (take last later)) 0 ≡ Some y → IsNext k m list (set later last y)
  next_bucket later y same greatest next least =
      let size = window.size in
      let all = take_all k list (omega arith) in
      let all_set = take_all k (set later last y) (omega (arith, length-set later last y)) in
      rw (all, all_set) at (next_with_later_front k m last y list later more (omega arith) (omega arith)
      (bucket_ends greatest) next least)

  pub last_bucket : IsLastOfBucket k m list → IsLast last m (take last list) → IsLast k m list
  last_bucket greatest none =
      let size = window.size in
      let all = take_all k list (omega arith) in
      rw all at (last_with_last_front k m last list more (omega arith) (bucket_ends greatest) none)
