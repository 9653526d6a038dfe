-- The second windows after the windows of a bucket.
use Rattle.std.proofs.Common.{◌≡◌, ◌≢◌, ℕ, ◌+◌, ◌-◌, ◌*◌, ◌<◌, ◌≤◌, false, cond, nat_lt, List, [], ◌∷◌, ◌++◌, length}
use Rattle.std.proofs.Common.{get_or, take, drop, slice_get, Some, subst, sym, ap, ◌∙◌, arith, refl, length-drop}
use Rattle.std.proofs.Math.Nat.{mul-le-mul_left}
use Rattle.std.proofs.lemmas.Bool.Decides.{nat_tests}
use Rattle.std.proofs.lemmas.List.{get_or-take, get_or-drop, length-take-le}
use Rattle.std.proofs.lemmas.Option.{same_Some, slice_get-get_or, slice_get_within}
use Rattle.std.specs.Int.{abs_diff}
use Rattle.win_index.specs.Buckets.{IsBucketStart}
use Rattle.win_index.specs.Windows.{is_used, unused, windows}
use Rattle.win_index.proofs.Windows.{windows_all, slice_window, free_at as free_before, bucket_start_is, IsDistinct, distinct_head, distinct_tail, lacks_differs, unused_at, unused_at_end, unused_in_front, at_place_of_bucket, lacks_drop, rank_rises, whole_list, rank, unused_left, back_window}
use Rattle.channel_tables.specs.Tables.{ChannelTable, windows_of}
use Rattle.nbhd_check.specs.declared.near.SecondBuckets.{SecondBuckets}
use Rattle.nbhd_check.specs.Masks.{NoneClose}
use Rattle.nbhd_check.specs.Buckets.{SecondBucketsOf, second_bucket, second_gap, wide, AreFree, BeginsBadTuple}
use Rattle.nbhd_check.specs.Buckets.{HasCloseOutside}
use Rattle.nbhd_check.proofs.Suffixes.{number_of_next, bucket_within}
use Rattle.nbhd_check.proofs.Buckets.{first_is_free, none_close_after}

-- y and then the list are distinct and lack x; the place of y in the list with x, and of x in the list with y, if the
-- list alone has them at the places p and q
shifted : (list : List ℕ) (y x : ℕ) → IsDistinct (y ∷ list) → is_used list x ≡ false → x ≢ y
    → (rank list x ≡ rank (y ∷ list) x + cond (nat_lt (rank (y ∷ list) x) (rank list y)) 0 1)
    × (rank list y ≡ rank (list ++ x ∷ []) y + cond (nat_lt (rank (y ∷ list) x) (rank list y)) 1 0)
shifted list y x distinct free other =
    let front = unused_in_front y x list distinct in
    let end = unused_at_end y x list (distinct_tail y list distinct) free in
    let after = rank_rises list y x (distinct_head y list distinct) in
    let before = rank_rises list x y free in
    (grind (arith, nat_tests, front, after, before), grind (arith, nat_tests, front, end, after, before))

-- the same for a list and its last identifiers
shifted_front : (front : List ℕ) (x : ℕ) → 1 ≤ length front → IsDistinct front → is_used front x ≡ false
    → (rank (drop 1 front) x ≡ rank front x + cond (nat_lt (rank front x) (rank (drop 1 front) (get_or front 0 0))) 0 1)
    × (rank (drop 1 front) (get_or front 0 0)
    ≡ rank (drop 1 (front ++ x ∷ [])) (get_or front 0 0)
    + cond (nat_lt (rank front x) (rank (drop 1 front) (get_or front 0 0))) 1 0)
shifted_front [] x long distinct free = absurd (omega arith)
shifted_front (y ∷ list) x long distinct free =
    shifted list y x distinct (lacks_drop 1 x (y ∷ list) free)
    (λ e. lacks_differs (y ∷ list) x free 0 0 (omega arith) (sym e))

-- where the second windows after one window of a bucket are
pub second_at : (t : ChannelTable) (buckets : SecondBuckets) (place : ℕ) (window : List ℕ) → SecondBucketsOf t buckets
    → place < wide t
    → slice_get (windows_of t) (buckets.bucket * wide t + place) ≡ Some window
    → (slice_get (windows (2 * t.rounds) t.ids) (second_bucket buckets place) ≡ Some (drop 1 window))
    × (second_gap buckets place ≡ rank (drop 1 window) (get_or window 0 0))
second_at t buckets place window are inside item =
    let k : ℕ = 2 * t.rounds in
    let some = are.some in
    let is = windows_all (k + 1) t.ids (buckets.bucket * wide t + place) window item in
    let size = is.size in
    let own = at_place_of_bucket k t.ids buckets.bucket place window inside item in
    let same : take k window ≡ are.front = same_Some (take k window) are.front (sym own.0 ∙ are.front_at) in
    let front = slice_window t.ids (k + 1) 0 k window is (omega arith) in
    let x : ℕ = get_or window k 0 in
    let gap_is = rw (← same) at are.gap_is in
    let both = shifted_front (take k window) x (omega (arith, front.size)) front.distinct
    (free_before window k is.distinct (omega arith)) in
    let bucket = rw (own.1, ← gap_is) at both.0 in
    let gap = rw (own.1, ← gap_is, whole_list k t.ids window is, get_or-take k window 0 0 (omega arith)) at both.1 in
    let next = number_of_next t window are.number buckets.first (rank (drop 1 (take k window)) x) some is (are.number_at
    ∙ ap (λ l. Some (drop 1 l)) (sym same)) are.first_is refl in
    let number : buckets.first + rank (drop 1 (take k window)) x ≡ second_bucket buckets place
    = omega (arith, bucket) in
    (rw number at next, omega (arith, gap))

-- the window at a place of a bucket, and the bucket of its second windows
pub record AtPlace (t : ChannelTable) (buckets : SecondBuckets) (place : ℕ) : Type 0 where
  pub window : List ℕ
  pub item : slice_get (windows_of t) (buckets.bucket * wide t + place) ≡ Some window
  pub gap_is : second_gap buckets place ≡ length (unused (get_or window 0 0) (drop 1 window))
  pub gap_inside : second_gap buckets place < wide t
  pub next_within : second_bucket buckets place * wide t + wide t ≤ length t.entries
  pub next_few : second_bucket buckets place < length t.entries
  pub starts : IsBucketStart (2 * t.rounds) t.ids (drop 1 window) (second_bucket buckets place * wide t)
  pub full : length t.entries ≡ length (windows_of t)

-- the same by the window's identifiers
pub at_place_by : (t : ChannelTable) (buckets : SecondBuckets) (place : ℕ)
    → length t.entries ≡ length (windows_of t) → 1 ≤ t.rounds
    → buckets.bucket * wide t + wide t ≤ length (windows_of t) → place < wide t
    → ((window : List ℕ) → slice_get (windows_of t) (buckets.bucket * wide t + place) ≡ Some window
    → (slice_get (windows (2 * t.rounds) t.ids) (second_bucket buckets place) ≡ Some (drop 1 window))
    × (second_gap buckets place ≡ rank (drop 1 window) (get_or window 0 0)))
    → AtPlace t buckets place
at_place_by t buckets place full rounds bucket_in inside of_window =
    let k : ℕ = 2 * t.rounds in
    let n : ℕ = buckets.bucket * wide t + place in
    let window = get_or (windows_of t) n [] in
    let item = slice_get-get_or (windows_of t) n [] (omega arith) in
    let is = windows_all (k + 1) t.ids n window item in
    let size = is.size in
    let rest = back_window k t.ids window is in
    let y : ℕ = get_or window 0 0 in
    let own = of_window window item in
    let gap_at = unused_at (drop 1 window) t.ids y (is.below 0 0 (omega arith)) (first_is_free window is.distinct) in
    let next : ℕ = second_bucket buckets place in
    let next_in = bucket_within t next (drop 1 window) full own.0 in
    let some : 1 ≤ wide t = omega arith in
    record {
      window = window;
      item = item;
      gap_is = own.1;
      gap_inside = omega (arith, own.1, slice_get_within (unused t.ids (drop 1 window)) (rank (drop 1 window) y) y gap_at, unused_left rest);
      next_within = next_in;
      next_few = omega (arith, next_in, mul-le-mul_left next some);
      starts = bucket_start_is k t.ids next (next * wide t) (drop 1 window) own.0 refl;
      full = full;
    }

pub at_place : (t : ChannelTable) (buckets : SecondBuckets) (place : ℕ)
    → length t.entries ≡ length (windows_of t) → SecondBucketsOf t buckets → place < wide t → AtPlace t buckets place
at_place t buckets place full are inside =
    let bucket_in = bucket_within t buckets.bucket are.front full are.front_at in
    at_place_by t buckets place full are.some (omega arith) inside
    (λ window item. second_at t buckets place window are inside item)

-- no tuple that begins with the window is bad if no channel of that bucket is close, except at the gap
pub free_at : (t : ChannelTable) (buckets : SecondBuckets) (place distance : ℕ) → AtPlace t buckets place
    → ¬ HasCloseOutside (take (wide t) (drop (second_bucket buckets place * wide t) t.entries))
    (second_gap buckets place) distance (get_or t.entries (buckets.bucket * wide t + place) 0)
    → AreFree t (BeginsBadTuple t (record { near = distance; far = 0 })) (buckets.bucket * wide t + place)
    (buckets.bucket * wide t + place + 1)
free_at t buckets place distance at' none number window from below item =
    let n : ℕ = buckets.bucket * wide t + place in
    let same : number ≡ n = omega arith in
    let own : at'.window ≡ window =
    same_Some at'.window window (sym at'.item ∙ ap (slice_get (windows_of t)) (sym same) ∙ item) in
    rw (← own) (none_close_after t at'.window n (second_bucket buckets place * wide t) (second_gap buckets place) distance at'.item at'.full at'.starts at'.gap_is none)

-- a bucket without close channels has none outside a gap
pub none_outside : (entries : List ℕ) (gap len distance bucket channel : ℕ)
    → NoneClose entries len distance bucket channel
    → bucket * len + len ≤ length entries
    → ¬ HasCloseOutside (take len (drop (bucket * len) entries)) gap distance channel
none_outside entries gap len distance bucket channel none within has =
    let list = drop (bucket * len) entries in
    let long = length-take-le len list (omega (arith, length-drop (bucket * len) entries)) in
    let place : ℕ = has.0 in
    let lt : place < len = omega (arith, has.1) in
    let read : get_or (take len list) place 0 ≡ get_or entries (bucket * len + place) 0 =
    get_or-take len list place 0 lt ∙ get_or-drop (bucket * len) entries place 0 in
    none place lt (subst (λ c. abs_diff channel c < distance) read has.3)

-- the end of the places from this one on of which the second buckets are consecutive
pub side : (buckets : SecondBuckets) (place each end : ℕ) → place < each → second_gap buckets place < each
    → end ≡ cond (nat_lt place buckets.gap) buckets.gap each
    → (place < end) × (end ≤ each)
    × ((i : ℕ) → i < end - place → second_bucket buckets (place + i) ≡ second_bucket buckets place + i)
side buckets place each end lt gap end_is = (
  grind (arith, nat_tests, end_is),
  grind (arith, nat_tests, end_is, gap),
  λ i in_side. grind (arith, nat_tests, end_is, in_side),
)

-- no such tuple begins with consecutive windows, of which the second buckets are consecutive too, if these have no
-- close channel
pub free_along : (t : ChannelTable) (buckets : SecondBuckets) (place count all distance : ℕ)
    → length t.entries ≡ length (windows_of t) → SecondBucketsOf t buckets
    → place + all ≤ wide t → count ≤ all
    → ((i : ℕ) → i < all → second_bucket buckets (place + i) ≡ second_bucket buckets place + i)
    → ((i : ℕ) → i < count → NoneClose t.entries (wide t) distance (second_bucket buckets place + i) (get_or t.entries (buckets.bucket * wide t + place + i) 0))
    → AreFree t (BeginsBadTuple t (record { near = distance; far = 0 })) (buckets.bucket * wide t + place)
    (buckets.bucket * wide t + (place + count))
free_along t buckets place count all distance full are within few beside none number window from below item =
    let first : ℕ = buckets.bucket * wide t + place in
    let i : ℕ = number - first in
    let lt : i < count = omega (arith, from, below) in
    let in_all : i < all = omega (arith, lt, few) in
    let here = at_place t buckets (place + i) full are (omega (arith, in_all, within)) in
    let own : first + i ≡ buckets.bucket * wide t + (place + i) = omega arith in
    let lacks : NoneClose t.entries (wide t) distance (second_bucket buckets (place + i))
    (get_or t.entries (buckets.bucket * wide t + (place + i)) 0) =
    subst (λ n. NoneClose t.entries (wide t) distance (second_bucket buckets (place + i)) (get_or t.entries n 0)) own
    (subst (λ r. NoneClose t.entries (wide t) distance r (get_or t.entries (first + i) 0)) (sym (beside i in_all)) (none i lt)) in
    free_at t buckets (place + i) distance here
    (none_outside t.entries (second_gap buckets (place + i)) (wide t) distance (second_bucket buckets (place + i)) (get_or t.entries (buckets.bucket * wide t + (place + i)) 0) lacks here.next_within)
    number window (omega (arith, from)) (omega (arith, from)) item
