-- The numbers of a window's suffixes, among the lists of 2t and of 2t-1 identifiers.
use Rattle.std.proofs.Common.{◌≡◌, ℕ, ◌+◌, ◌-◌, ◌*◌, ◌≤◌, List, length, take, drop, slice_get, slice_index, Some, sym}
use Rattle.std.proofs.Common.{ap, ◌∙◌, arith, refl}
use Rattle.std.proofs.lemmas.List.{get_or-drop, drop-take}
use Rattle.win_index.specs.Buckets.{IsBucketStart}
use Rattle.win_index.specs.Windows.{unused, windows, IsWindow}
use Rattle.win_index.proofs.Windows.{slice_window, bucket_start_is, window_drop}
use Rattle.channel_tables.specs.Tables.{ChannelTable, windows_of}
use Rattle.nbhd_check.specs.Buckets.{wide}
use Rattle.nbhd_check.specs.Counts.{shared_lists}

-- the identifiers of a window without its first ones and its last, as the code slices them
pub shared_cut : (by : ℕ) (t : ChannelTable) (rounds : ℕ) (window : List ℕ) → rounds ≡ t.rounds → by ≤ 2 * t.rounds
    → take (2 * rounds - by) (drop by window) ≡ drop by (take (2 * t.rounds) window)
shared_cut by t rounds window rounds_is few =
    let turn : by + (2 * t.rounds - by) ≡ 2 * t.rounds = omega arith in
    rw rounds_is (sym (drop-take by (2 * t.rounds - by) window) ∙ ap (λ k. drop by (take k window)) turn)

-- the entries of a bucket are those of a table
pub bucket_within :
    (t : ChannelTable) (bucket : ℕ) (list : List ℕ) → length t.entries ≡ length (windows_of t)
    → slice_get (windows (2 * t.rounds) t.ids) bucket ≡ Some list → bucket * wide t + wide t ≤ length t.entries
bucket_within t bucket list full at' =
    let within = (bucket_start_is (2 * t.rounds) t.ids bucket (bucket * wide t) list at' refl).within in
    omega arith

-- the identifiers of a window without its first two and its last are a window
pub front_two :
    (t : ChannelTable) (rounds ids : ℕ) (window : List ℕ) → rounds ≡ t.rounds → ids ≡ t.ids → 1 ≤ t.rounds
    → IsWindow (2 * t.rounds + 1) t.ids window → IsWindow (2 * (rounds - 1)) ids (take (2 * rounds - 2) (drop 2 window))
front_two t rounds ids window rounds_is ids_is some is =
    let len : 2 * (t.rounds - 1) ≡ 2 * t.rounds - 2 = omega arith in
    rw (rounds_is, ids_is, len) (slice_window t.ids (2 * t.rounds + 1) 2 (2 * t.rounds - 2) window is (omega arith))

-- the number of a suffix of k+1 identifiers, from the bucket of those with the same first k
number_of_suffix :
    (by k m first place : ℕ) (window : List ℕ) → IsWindow (by + (k + 1)) m window
    → IsBucketStart k m (drop by (take (by + k) window)) first
    → place ≡ length (unused (slice_index window (by + k)) (drop by (take (by + k) window)))
    → slice_get (windows (k + 1) m) (first + place) ≡ Some (drop by window)
number_of_suffix by k m first place window is bucket place_is =
    rw (place_is, ← get_or-drop by window k 0)
    (bucket.each (drop by window) (window_drop (k + 1) m by window is) (sym (drop-take by k window)))

-- the number of a window's identifiers without the first two
pub number_of_third :
    (t : ChannelTable) (window : List ℕ) (first place : ℕ) → 1 ≤ t.rounds → IsWindow (2 * t.rounds + 1) t.ids window
    → IsBucketStart (2 * (t.rounds - 1)) t.ids (drop 2 (take (2 * t.rounds) window)) first
    → place ≡ length (unused (slice_index window (2 * t.rounds)) (drop 2 (take (2 * t.rounds) window)))
    → slice_get (shared_lists t) (first + place) ≡ Some (drop 2 window)
number_of_third t window first place some is bucket place_is =
    let k : ℕ = 2 * (t.rounds - 1) in
    let len : 2 * t.rounds + 1 ≡ 2 + (k + 1) = omega arith in
    let front : 2 * t.rounds ≡ 2 + k = omega arith in
    number_of_suffix 2 k t.ids first place window (rw len at is) (rw front at bucket) (rw front at place_is)

-- the number of a window's identifiers without the first
pub number_of_next :
    (t : ChannelTable) (window : List ℕ) (number first place : ℕ) → 1 ≤ t.rounds
    → IsWindow (2 * t.rounds + 1) t.ids window
    → slice_get (windows (2 * (t.rounds - 1) + 1) t.ids) number ≡ Some (drop 1 (take (2 * t.rounds) window))
    → first ≡ number * (t.ids - (2 * (t.rounds - 1) + 1))
    → place ≡ length (unused (slice_index window (2 * t.rounds)) (drop 1 (take (2 * t.rounds) window)))
    → slice_get (windows (2 * t.rounds) t.ids) (first + place) ≡ Some (drop 1 window)
number_of_next t window number first place some is at' first_is place_is =
    let k : ℕ = 2 * (t.rounds - 1) + 1 in
    let len : 2 * t.rounds + 1 ≡ 1 + (k + 1) = omega arith in
    let front : 2 * t.rounds ≡ 1 + k = omega arith in
    let size : k + 1 ≡ 2 * t.rounds = omega arith in
    let bucket = bucket_start_is k t.ids number first (drop 1 (take (2 * t.rounds) window)) at' first_is in
    rw size at (number_of_suffix 1 k t.ids first place window (rw len at is) (rw front at bucket)
    (rw front at place_is))
