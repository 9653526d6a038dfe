-- Buckets: the windows with a common prefix, all identifiers but the last. They are consecutive, in the order of their
-- last identifiers.
use Rattle.std.specs.Prelude.{◌≡◌, ℕ, ◌+◌, ◌-◌, ◌<◌, ◌≤◌, Bool, List, take, drop, set, length, slice_index}
use Rattle.std.specs.Prelude.{slice_get, Some}
use Rattle.std.specs.Bool.{OnTrue, OnFalse}
use Rattle.win_index.specs.Successor.{IsNext, IsLast}
use Rattle.win_index.specs.Windows.{unused, windows, IsWindow}
use Rattle.win_index.specs.declared.series.BucketPlaces.{BucketPlaces}

-- The windows of length k+1 below m with this prefix of k identifiers are those from number `first` on, as many as the
-- prefix lacks identifiers, each at the position of its last identifier among these.
pub record IsBucketStart (k m : ℕ) (front : List ℕ) (first : ℕ) : Type 0 where
  pub within : first + (m - k) ≤ length (windows (k + 1) m)
  pub each : (window : List ℕ) → IsWindow (k + 1) m window → take k window ≡ front
      → slice_get (windows (k + 1) m) (first + length (unused (slice_index window k) front)) ≡ Some window

-- No window of length k below m with the same prefix has a larger last number.
abbrev pub IsLastOfBucket : ℕ → ℕ → List ℕ → Type 0
IsLastOfBucket k m window = (x : ℕ) → IsWindow k m (set window (k - 1) x) → x ≤ slice_index window (k - 1)

-- the last window of length k below m with the same prefix as this one, all numbers but the last
pub record IsEndOfSame (k m : ℕ) (window last : List ℕ) : Type 0 where
  pub last_is : IsWindow k m last
  pub same : take (k - 1) last ≡ take (k - 1) window
  pub none_larger : IsLastOfBucket k m last

-- a window was replaced by the first one after its bucket, or its bucket is the last one and the window is unchanged
pub record IsReplacedByBucket (k m : ℕ) (is_replaced : Bool) (old new : List ℕ) : Type 0 where
  pub next : OnTrue is_replaced ((last : List ℕ) → IsEndOfSame k m old last → IsNext k m last new)
  pub last : OnFalse is_replaced ((last : List ℕ) → IsEndOfSame k m old last → IsLast k m last)
  pub same : OnFalse is_replaced (new ≡ old)
  pub window : IsWindow k m new

-- A series of `count` windows of length k+2 below m: they are consecutive and share all identifiers but the last, and
-- their suffixes, the windows of length k without the first two identifiers, are consecutive too.
abbrev pub IsSeries : ℕ → ℕ → List ℕ → ℕ → Type 0
IsSeries k m first count =
    (n low j : ℕ) → slice_get (windows (k + 2) m) n ≡ Some first →
    slice_get (windows k m) low ≡ Some (drop 2 first) → j < count
    → (window : List ℕ) × (slice_get (windows (k + 2) m) (n + j) ≡ Some window)
    × (take (k + 1) window ≡ take (k + 1) first)
    × (slice_get (windows k m) (low + j) ≡ Some (drop 2 window))

-- The position of the number x among those that a window of length k+2 lacks without its last and its first two
-- identifiers. It is the position of the window's suffix, with x for its last identifier, in the bucket of that suffix.
abbrev pub place_in_bucket : ℕ → List ℕ → ℕ → ℕ
place_in_bucket k window x = length (unused x (drop 2 (take (k + 1) window)))

-- the suffixes of the windows of a bucket have all positions below the end but the two gaps, where the bucket's first
-- two identifiers would occur again
pub record HasPlaces (k m : ℕ) (window : List ℕ) (places : BucketPlaces) : Type 0 where
  pub first : place_in_bucket k window (slice_index window 0) ≡ places.first_gap
  pub second : place_in_bucket k window (slice_index window 1) ≡ places.second_gap
  pub end : place_in_bucket k window m ≡ places.end

-- the last identifier of a window is the least one that its prefix of k identifiers lacks, so that it is the first of
-- its bucket
abbrev pub IsFirstOfBucket : ℕ → ℕ → List ℕ → Type 0
IsFirstOfBucket k m window = slice_get (unused m (take k window)) 0 ≡ Some (slice_index window k)

-- a window of length k+2 below m whose bucket has these positions, and whose suffix has this one
pub record IsAtPlace (k m : ℕ) (places : BucketPlaces) (window : List ℕ) (place : ℕ) : Type 0 where
  pub window_is : IsWindow (k + 2) m window
  pub bucket_has : HasPlaces k m window places
  pub place_is : place_in_bucket k window (slice_index window (k + 1)) ≡ place

-- `count` is the length of the longest series from the window at this position of a bucket, at least 1 and at most
-- `most`
pub record IsLongestSeries (places : BucketPlaces) (place most count : ℕ) : Type 0 where
  pub some : 1 ≤ count
  pub few : count ≤ most
  pub inside : place + count ≤ places.end
  pub series : (k m : ℕ) (first : List ℕ) → 1 ≤ k → IsAtPlace k m places first place → IsSeries k m first count
  pub whole : (k m : ℕ) (first : List ℕ) → 1 ≤ k → IsAtPlace k m places first place → count < most
      → IsSeries k m first (count + 1) → ⊥
