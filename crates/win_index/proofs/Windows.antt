-- What other crates cite of windows: lists of distinct identifiers, the identifiers that a list lacks, the numbers
-- of windows, buckets, rings and jobs. Of the files here they import this one alone.
use Rattle.std.proofs.Common.{◌≡◌, ◌≢◌, ◌↔◌, ℕ, zero, suc, ◌+◌, ◌-◌, ◌*◌, ◌/◌, ◌%◌, ◌<◌, ◌≤◌, false, cond, nat_lt, List}
use Rattle.std.proofs.Common.{[], ◌∷◌, ◌++◌, flat_map, filter, count_by, length, get_or, take, drop, slice_get, Some}
use Rattle.std.proofs.Common.{IsSome, sym, ap, ◌∙◌, arith, length-drop, get_or-drop}
use Rattle.std.proofs.Math.Nat.{mod-lt, mul_assoc, mul-one}
use Rattle.std.proofs.lemmas.Bool.{not-true}
use Rattle.std.proofs.lemmas.List.{drop-take, take_all, take_more, take-take}
use Rattle.std.proofs.lemmas.Nat.{div-add-mod', same_from_place}
use Rattle.std.proofs.lemmas.Option.{slice_get-get_or, slice_get_within}
use Rattle.std.specs.List.{range_with_len}
use Rattle.win_index.specs.declared.limits.TheConstants.{MAX_WINDOWS}
use Rattle.win_index.specs.declared.shape.Shape.{Shape}
use Rattle.win_index.specs.Arcs.{arc, window_around, part_at}
use Rattle.win_index.specs.Blocks.{block_count}
use Rattle.win_index.specs.Falling.{falling}
use Rattle.win_index.specs.Jobs.{job_number}
use Rattle.win_index.specs.Laws.{LongerWindowsHaveNumbers, TuplesAreRings, RingsHaveTuples}
use Rattle.win_index.specs.Ring.{IsRing}
use Rattle.win_index.specs.Buckets.{IsBucketStart}
use Rattle.win_index.specs.Windows.{is_used, unused, windows, number_of, IsWindow}
use Rattle.win_index.proofs.Arcs
use Rattle.win_index.proofs.FrontPlaces
use Rattle.win_index.proofs.JobNumbers
use Rattle.win_index.proofs.JobPlaces
use Rattle.win_index.proofs.Kept
use Rattle.win_index.proofs.Levels
use Rattle.win_index.proofs.Numbers
use Rattle.win_index.proofs.Order
use Rattle.win_index.proofs.Pieces
use Rattle.win_index.proofs.Positions
use Rattle.win_index.proofs.BucketPrefixNumbers
use Rattle.win_index.proofs.BucketStarts
use Rattle.win_index.proofs.Sizes
use Rattle.win_index.proofs.Tuples
use Rattle.win_index.proofs.Unused
-- the numbers of a list are distinct
pub use Rattle.win_index.proofs.Unused.{IsDistinct}
-- whether a list lacks a number
pub use Rattle.win_index.proofs.Unused.{lacks}
-- f makes a list of length c of each item
pub use Rattle.win_index.proofs.Pieces.{HasPieces}
-- an item of these lists, joined, by the list and the place there
pub use Rattle.win_index.proofs.Pieces.{Piece}
-- the jobs of the levels below one
pub use Rattle.win_index.proofs.JobPlaces.{jobs_below}

-- ---- lists of distinct numbers

-- the first of distinct numbers is not among the others
pub distinct_head : (y : ℕ) (list : List ℕ) → IsDistinct (y ∷ list) → is_used list y ≡ false
distinct_head = Unused.distinct_head

-- without the first, distinct numbers are distinct
pub distinct_tail : (y : ℕ) (list : List ℕ) → IsDistinct (y ∷ list) → IsDistinct list
distinct_tail = Unused.distinct_tail

-- and so are the first n of them
pub distinct_take : (n : ℕ) (list : List ℕ) → IsDistinct list → IsDistinct (take n list)
distinct_take = Unused.distinct_take

-- each of them is not among those before it
pub free_at : (list : List ℕ) (j : ℕ) → IsDistinct list → j < length list
    → is_used (take j list) (get_or list j 0) ≡ false
free_at = Positions.free_at

-- a number that a list lacks differs from each of its numbers
pub lacks_differs : (list : List ℕ) (x : ℕ) → is_used list x ≡ false → (k d : ℕ) → k < length list → get_or list k d ≢ x
lacks_differs = Unused.lacks_differs

-- a list lacks a number that differs from each of its numbers
pub lacks_from_differs : (list : List ℕ) (x : ℕ) → ((k : ℕ) → k < length list → get_or list k 0 ≢ x)
    → is_used list x ≡ false
lacks_from_differs = Unused.lacks_from_differs

-- what a list lacks, its last numbers lack
pub lacks_drop : (n x : ℕ) (list : List ℕ) → is_used list x ≡ false → is_used (drop n list) x ≡ false
lacks_drop n x list free =
    lacks_from_differs (drop n list) x
    (λ i lt e. lacks_differs list x free (n + i) 0 (omega (arith, length-drop n list))
    (sym (get_or-drop n list i 0) ∙ e))

-- ---- the numbers that a list lacks, and their ranks

-- the rank of a number beside a list: how many smaller numbers the list lacks
abbrev pub rank : List ℕ → ℕ → ℕ
rank list x = length (unused x list)

-- a number below the bound that a list lacks, with this rank
pub record IsUnusedAt (m : ℕ) (list : List ℕ) (index x : ℕ) : Type 0 where
  pub below : x < m
  pub free : is_used list x ≡ false
  pub rank_is : rank list x ≡ index

-- the number at an index of those that a list lacks has the index as its rank
pub unused_is : (list : List ℕ) (m index x : ℕ) → slice_get (unused m list) index ≡ Some x → IsUnusedAt m list index x
unused_is list m index x item =
    let own = Kept.kept_is (lacks list) m index x item in
    record { below = own.below; free = not-true (is_used list x) own.passes; rank_is = own.before }

-- a number that a list lacks is at its rank among those that the list lacks
pub unused_at : (list : List ℕ) (m x : ℕ) → x < m → is_used list x ≡ false
    → slice_get (unused m list) (rank list x) ≡ Some x
unused_at = Unused.unused_at

-- up to a bound a list lacks what it lacks up to a smaller one, and then what it lacks from there on
pub unused_split : (list : List ℕ) (low m : ℕ) → low ≤ m
    → unused m list ≡ unused low list ++ filter (lacks list) (range_with_len low (m - low))
unused_split list = Kept.kept_split (lacks list)

-- up to the next number a list lacks what it lacks below the number, and the number itself, if it lacks that
pub unused_suc : (list : List ℕ) (x : ℕ) → unused (suc x) list ≡ unused x list ++ cond (lacks list x) (x ∷ []) []
unused_suc list = Kept.kept_suc (lacks list)

-- a greater number has no lower rank
pub unused_rises : (list : List ℕ) (x y : ℕ) → x ≤ y → rank list x ≤ rank list y
unused_rises list = Kept.kept_rises (lacks list)

-- a number that the list lacks has a lower rank than each greater one
pub rank_rises : (list : List ℕ) (x y : ℕ) → is_used list x ≡ false → x < y → rank list x < rank list y
rank_rises = Unused.counted

-- two numbers that a list lacks have different ranks
pub ranks_differ : (list : List ℕ) (x y : ℕ) → is_used list x ≡ false → is_used list y ≡ false → x ≢ y
    → rank list x ≢ rank list y
ranks_differ = Unused.apart

-- the rank of x is x less the number of smaller numbers in the list
pub unused_below : (list : List ℕ) (x : ℕ) → IsDistinct list → rank list x + count_by (λ y. nat_lt y x) list ≡ x
unused_below = Unused.unused_below

-- a rank rises by at most as much as the number
pub unused_few : (list : List ℕ) (x more : ℕ) → rank list (x + more) ≤ rank list x + more
unused_few = Unused.unused_few

-- with a smaller number in front of the list a rank is less by one
pub unused_in_front : (y x : ℕ) (list : List ℕ) → IsDistinct (y ∷ list)
    → rank (y ∷ list) x + cond (nat_lt y x) 1 0 ≡ rank list x
unused_in_front = Unused.unused_in_front

-- and so it is with a smaller number at the end of the list
pub unused_at_end :
    (y x : ℕ) (list : List ℕ) → IsDistinct list → is_used list x ≡ false
    → rank (list ++ x ∷ []) y + cond (nat_lt x y) 1 0 ≡ rank list y
unused_at_end = Unused.unused_at_end

-- ---- windows

-- a window of k identifiers lacks the m-k others
pub unused_left : {k m : ℕ} {front : List ℕ} → IsWindow k m front → length (unused m front) + k ≡ m
unused_left is = Numbers.unused_left is

-- a window has at most as many identifiers as there are
pub window_within : (k m : ℕ) (list : List ℕ) → IsWindow k m list → k ≤ m
window_within = Sizes.window_within

-- consecutive identifiers of a window are a window
pub slice_window : (m n d len : ℕ) (w : List ℕ) → IsWindow n m w → d + len ≤ n → IsWindow len m (take len (drop d w))
slice_window = FrontPlaces.slice_window

-- the first identifiers of a window are a window
pub window_take : (k m j : ℕ) (list : List ℕ) → j ≤ k → IsWindow k m list → IsWindow j m (take j list)
window_take k m j list le is = slice_window m k 0 j list is (omega arith)

-- and so are the last ones
pub window_drop : (k m j : ℕ) (list : List ℕ) → IsWindow (j + k) m list → IsWindow k m (drop j list)
window_drop k m j list is =
    let size = is.size in
    rw (take_all k (drop j list) (omega (arith, length-drop j list))) at
    (slice_window m (j + k) j k list is (omega arith))

-- and all but the first one
pub back_window : (k m : ℕ) (list : List ℕ) → IsWindow (k + 1) m list → IsWindow k m (drop 1 list)
back_window k m list is =
    let turn : k + 1 ≡ 1 + k = omega arith in
    window_drop k m 1 list (rw turn at is)

-- a window is its first identifiers and its last one
pub whole_list : (k m : ℕ) (window : List ℕ) → IsWindow (k + 1) m window
    → take k window ++ get_or window k 0 ∷ [] ≡ window
whole_list k m window is =
    let size = is.size in
    sym (take_more window k 0 (omega arith)) ∙ take_all (k + 1) window (omega arith)

-- a window with one more identifier that it lacks is a window
pub push_window : (k m x : ℕ) (front : List ℕ) → IsWindow k m front → x < m → is_used front x ≡ false
    → IsWindow (suc k) m (front ++ x ∷ [])
push_window = Numbers.push_window

-- a window that has not all identifiers is the front of a longer one
pub longer_window : (k m : ℕ) (window : List ℕ) → k < m → IsWindow k m window
    → (x : ℕ) × IsWindow (suc k) m (window ++ x ∷ [])
longer_window k m window few is =
    let some : 0 < length (unused m window) = omega (arith, unused_left is, few) in
    let x = get_or (unused m window) 0 0 in
    let own = unused_is window m 0 x (slice_get-get_or (unused m window) 0 0 some) in
    (x, push_window k m x window is own.below own.free)

-- the first p+1 identifiers of a list are a window if the first p are and lack the next one
pub front_more :
    (p m : ℕ) (list : List ℕ) → p < length list → IsWindow p m (take p list) → get_or list p 0 < m
    → is_used (take p list) (get_or list p 0) ≡ false
    → IsWindow (p + 1) m (take (p + 1) list)
front_more = Positions.front_more

-- ---- the list of windows, and their numbers

-- each item of the list is a window
pub windows_all : (k m n : ℕ) (list : List ℕ) → slice_get (windows k m) n ≡ Some list → IsWindow k m list
windows_all = Numbers.windows_all

-- each window is in the list
pub window_place : (k m : ℕ) (list : List ℕ) → IsWindow k m list → (n : ℕ) × (slice_get (windows k m) n ≡ Some list)
window_place = Positions.window_place

-- and only at one place
pub one_number : (k m i j : ℕ) (list : List ℕ) → slice_get (windows k m) i ≡ Some list
    → slice_get (windows k m) j ≡ Some list → i ≡ j
one_number = Order.one_place

-- the number of a window is its index in the list
pub number_of_is : (k m n : ℕ) (list : List ℕ) → slice_get (windows k m) n ≡ Some list → number_of k m list ≡ Some n
number_of_is = Positions.number_of_is

-- and at the index that is its number the list has the window
pub number_of_some : (k m n : ℕ) (list : List ℕ) → number_of k m list ≡ Some n → slice_get (windows k m) n ≡ Some list
number_of_some = Positions.number_of_some

-- the lists that have a number are the windows
pub has_number : (k m : ℕ) (list : List ℕ) → IsSome (number_of k m list) ↔ IsWindow k m list
has_number = Positions.has_number

-- there are m (m-1) .. (m-k+1) windows of length k
pub length-windows : (k m : ℕ) → length (windows k m) ≡ falling m k
length-windows = Numbers.length-windows

-- for each window there are m-k with one identifier more
pub windows_more : (k m : ℕ) → length (windows (k + 1) m) ≡ length (windows k m) * (m - k)
windows_more = Numbers.windows_more

-- a shape has few windows, and few shorter ones
pub few_of_shape : (s : Shape) (len : ℕ) → len ≤ 2 * s.rounds + 1 → length (windows len s.ids) ≤ MAX_WINDOWS
few_of_shape = Levels.few_of_shape

-- a product of numbers from m down is that of its first k factors times that of the others
pub falling-add : (m k more : ℕ) → falling m (k + more) ≡ falling m k * falling (m - k) more
falling-add m k zero =
    let same : k + zero ≡ k = omega arith in
    rw same (sym (mul-one (falling m k)))
falling-add m k (suc more) =
    let size : k + suc more ≡ suc (k + more) = omega arith in
    let free : m - (k + more) ≡ m - k - more = omega arith in
    rw (size, falling-add m k more, free) (mul_assoc (falling m k) (falling (m - k) more) (m - k - more))

-- the product of one factor
pub falling_one : (n : ℕ) → falling n 1 ≡ n
falling_one n = omega arith

-- and the product of two
pub falling_two : (n : ℕ) → falling n 2 ≡ n * (n - 1)
falling_two n = ap (λ k. k * (n - 1)) (falling_one n)

-- ---- buckets: the windows with a common prefix

-- the rank of identifier k of a list beside the k before it
abbrev pub place_of_last : ℕ → List ℕ → ℕ
place_of_last k list = rank (take k list) (get_or list k 0)

-- a bucket is at the number of its prefix times the length of a bucket
pub bucket_start_is : (k m n first : ℕ) (front : List ℕ) → slice_get (windows k m) n ≡ Some front → first ≡ n * (m - k)
    → IsBucketStart k m front first
bucket_start_is = BucketStarts.bucket_start_is

-- a window with one identifier more is in the bucket of its prefix, at the rank of that identifier
pub longer_number : LongerWindowsHaveNumbers
longer_number = BucketStarts.longer_number

-- the same from the index of that identifier among those that the prefix lacks
pub window_from_parts :
    (k m place rest last : ℕ) (front : List ℕ) → slice_get (windows k m) place ≡ Some front
    → slice_get (unused m front) rest ≡ Some last
    → slice_get (windows (suc k) m) (place * (m - k) + rest) ≡ Some (front ++ last ∷ [])
window_from_parts = Numbers.window_from_parts

-- the number of the first j+1 identifiers of a window, from that of the first j
pub front_step :
    (k m j n : ℕ) (list : List ℕ) → IsWindow k m list → j < k → slice_get (windows j m) n ≡ Some (take j list)
    → slice_get (windows (j + 1) m) (n * (m - j) + rank (take j list) (get_or list j 0)) ≡ Some (take (j + 1) list)
front_step = Positions.front_step

-- window n of k+1 identifiers by the number of its prefix and the rank of its last identifier
pub record InBucket (k m n : ℕ) (longer : List ℕ) : Type 0 where
  pub is : IsWindow (k + 1) m longer
  pub number : ℕ
  pub front_at : slice_get (windows k m) number ≡ Some (take k longer)
  pub inside : place_of_last k longer < m - k
  pub number_is : n ≡ number * (m - k) + place_of_last k longer

-- each window of k+1 identifiers has them
pub bucket_of : (k m n : ℕ) (longer : List ℕ) → slice_get (windows (k + 1) m) n ≡ Some longer → InBucket k m n longer
bucket_of k m n longer at' =
    let own = windows_all (k + 1) m n longer at' in
    let front = window_place k m (take k longer) (window_take (k + 1) m k longer (omega arith) own) in
    let numbered = longer_number k m front.0 longer own front.1 in
    record {
      is = own;
      number = front.0;
      front_at = front.1;
      inside = numbered.0;
      number_is = one_number (k + 1) m n (front.0 * (m - k) + place_of_last k longer) longer at' numbered.1;
    }

-- the window at a place of a bucket has the prefix with the number of the bucket, and an identifier with the place as
-- its rank
pub at_place_of_bucket :
    (k m bucket place : ℕ) (window : List ℕ) → place < m - k
    → slice_get (windows (k + 1) m) (bucket * (m - k) + place) ≡ Some window
    → (slice_get (windows k m) bucket ≡ Some (take k window)) × (place_of_last k window ≡ place)
at_place_of_bucket k m bucket place window lt at' =
    let own = bucket_of k m (bucket * (m - k) + place) window at' in
    let same = same_from_place bucket place own.number (place_of_last k window) (m - k) lt own.inside own.number_is in
    (rw same.0 own.front_at, sym same.1)

-- window n of k+more identifiers by the number of its prefix of k identifiers and its place among those with the prefix
pub record InLongerBucket (k m more n : ℕ) (longer : List ℕ) : Type 0 where
  pub number : ℕ
  pub rest : ℕ
  pub front_at : slice_get (windows k m) number ≡ Some (take k longer)
  pub inside : rest < falling (m - k) more
  pub number_is : n ≡ number * falling (m - k) more + rest

-- each window of k+more identifiers has them
pub in_longer_bucket : (k m more n : ℕ) (longer : List ℕ) → slice_get (windows (k + more) m) n ≡ Some longer
    → InLongerBucket k m more n longer
in_longer_bucket k m more n longer at' =
    let each : ℕ = falling (m - k) more in
    let below = rw (length-windows (k + more) m, falling-add m k more) at
    (slice_get_within (windows (k + more) m) n longer at') in
    let some : 0 < each = grind (arith, below) in
    record {
      number = n / each;
      rest = n % each;
      front_at = BucketPrefixNumbers.prefix_number k more m n longer at';
      inside = mod-lt n some;
      number_is = sym (div-add-mod' n each);
    }

-- a number is at one place of one bucket
pub one_bucket : (c place rest number n : ℕ) → rest < c → n ≡ place * c + rest → number * c ≤ n → n < number * c + c
    → place ≡ number
one_bucket c place rest number n short is from to =
    (same_from_place place rest number (n - number * c) c short (omega arith) (omega arith)).0

-- ---- rings

-- an arc has the requested number of identifiers
pub length_arc : (x : List ℕ) (start count : ℕ) → length (arc x start count) ≡ count
length_arc = Arcs.length_arc

-- each of them is that of its place, around the ring
pub item_of_arc : (x : List ℕ) (start count k d : ℕ) → k < count
    → get_or (arc x start count) k d ≡ get_or x ((start + k) % length x) 0
item_of_arc = Arcs.item_of_arc

-- the first identifiers of an arc are an arc
pub take-arc : (x : List ℕ) (start count j : ℕ) → j ≤ count → take j (arc x start count) ≡ arc x start j
take-arc = Arcs.take-arc

-- and so are the last ones
pub drop-arc : (x : List ℕ) (start count j : ℕ) → j ≤ count → drop j (arc x start count) ≡ arc x (start + j) (count - j)
drop-arc = Arcs.drop-arc

-- an arc that is no longer than the ring is a window
pub arc_window : (m t start count : ℕ) (x : List ℕ) → IsRing m t x → count ≤ length x
    → IsWindow count m (arc x start count)
arc_window = Arcs.arc_window

-- and so are the identifiers around a place
pub around_window : (m t level place : ℕ) (x : List ℕ) → IsRing m t x → level ≤ t
    → IsWindow (2 * level + 1) m (window_around x level place)
around_window = Arcs.around_window

-- the windows in the first n identifiers of a list are windows of the list
pub part_of_front : (r step n : ℕ) (list : List ℕ) → step + (2 * r + 1) ≤ n
    → part_at r step (take n list) ≡ part_at r step list
part_of_front r step n list le =
    let split : step + (n - step) ≡ n = omega arith in
    rw (← split) (ap (take (2 * r + 1)) (drop-take step (n - step) list)
    ∙ take-take (2 * r + 1) (n - step) (drop step list) (omega arith))

-- a list of 2t+1+extra distinct identifiers is a ring, and at place t+step it has its window from the offset step on
pub tuple_ring : TuplesAreRings
tuple_ring = Tuples.tuple_ring

-- such a list around a place of a ring is a window, and has the windows of this place and of extra places to its right
pub ring_tuple : RingsHaveTuples
ring_tuple = Tuples.ring_tuple

-- ---- jobs

-- no job is below level 0
pub no_jobs_below : (m : ℕ) → length (jobs_below m 0) ≡ 0
no_jobs_below = JobPlaces.no_jobs_below

-- a level has a job for each of its blocks
pub length_jobs_below : (m level : ℕ)
    → length (jobs_below m (level + 1)) ≡ length (jobs_below m level) + block_count m level
length_jobs_below = JobPlaces.length_jobs_below

-- the number of a block's job is that of the jobs of the levels below and of the blocks before it
pub job_number_at :
    (m t level block n : ℕ) → level ≤ t → block < block_count m level → n ≡ length (jobs_below m level) + block
    → job_number m t level block ≡ Some n
job_number_at = JobNumbers.job_number_at

-- ---- lists of all kinds

-- the first items of two joined lists are those of the first list
pub slice_get-append_left : {X : Type 0} (xs ys : List X) (n : ℕ) → n < length xs
    → slice_get (xs ++ ys) n ≡ slice_get xs n
slice_get-append_left xs ys n lt = Kept.slice_get-append_left xs ys n lt

-- those after them are the items of the second list
pub slice_get-append_right : {X : Type 0} (xs ys : List X) (n i : ℕ) → n ≡ length xs + i
    → slice_get (xs ++ ys) n ≡ slice_get ys i
slice_get-append_right xs ys n i is = Kept.slice_get-append_right xs ys n i is

-- what holds of each item of a list and of one more at its end holds of each item of the longer list
pub each_snoc :
    {W : Type 0} (P : ℕ → W → Type 0) (xs : List W) (w : W) → ((k : ℕ) (x : W) → slice_get xs k ≡ Some x → P k x)
    → P (length xs) w
    → (k : ℕ) (x : W) → slice_get (xs ++ w ∷ []) k ≡ Some x → P k x
each_snoc P xs w before next k x item = Kept.each_snoc P xs w before next k x item

-- n+l consecutive numbers are the first n and then l others
pub range_with_len-append : (a n l b : ℕ) → a + n ≡ b
    → range_with_len a (n + l) ≡ range_with_len a n ++ range_with_len b l
range_with_len-append = Kept.range_with_len-append

-- lists of length c that are made of the items of a list, joined, have c times its length
pub length_pieces : {X Y : Type 0} (f : X → List Y) (xs : List X) (c : ℕ) → HasPieces f xs c
    → length (flat_map f xs) ≡ length xs * c
length_pieces f xs c each = Pieces.length_pieces f xs c each

-- the item at a place of one of them is in the joined list, behind those of the lists before
pub piece_at :
    {X Y : Type 0} (f : X → List Y) (xs : List X) (c place rest : ℕ) (x : X) (item : Y) → HasPieces f xs c
    → slice_get xs place ≡ Some x
    → slice_get (f x) rest ≡ Some item → slice_get (flat_map f xs) (place * c + rest) ≡ Some item
piece_at f xs c place rest x item each source_at item_at =
    Pieces.piece_at f xs c place rest x item each source_at item_at

-- and each item of the joined list is at such a place
pub piece_of :
    {X Y : Type 0} (f : X → List Y) (xs : List X) (c n : ℕ) (item : Y) → HasPieces f xs c
    → slice_get (flat_map f xs) n ≡ Some item → Piece f xs c n item
piece_of f xs c n item each at' = Pieces.piece_of f xs c n item each at'
