-- The prefixes of buckets, by the numbers of their suffixes. A prefix of k identifiers and one more identifier are a
-- window of length k+1.
use Rattle.std.specs.Prelude.{◌≡◌, ℕ, ◌+◌, ◌-◌, List, take, drop, length, slice_index, slice_get, Some}
use Rattle.win_index.specs.Buckets.{IsFirstOfBucket, IsLastOfBucket}
use Rattle.win_index.specs.Successor.{IsNext, IsLast}
use Rattle.win_index.specs.Windows.{unused, windows, IsWindow}
use Rattle.win_index.specs.declared.bucket_prefix.BucketPrefix.{BucketPrefix}

-- the numbers of a list of k distinct identifiers below m: that of the list without its first identifier, that of the
-- list without its first two, and the positions of these two among the identifiers that the shorter list lacks
pub record HasNumbers (k m : ℕ) (list : List ℕ) (prefix : BucketPrefix) : Type 0 where
  pub window : IsWindow k m list
  pub middle : slice_get (windows (k - 1) m) prefix.middle ≡ Some (drop 1 list)
  pub last : slice_get (windows (k - 2) m) prefix.last ≡ Some (drop 2 list)
  pub first_gap : length (unused (slice_index list 0) (drop 2 list)) ≡ prefix.first_gap
  pub second_gap : length (unused (slice_index list 1) (drop 2 list)) ≡ prefix.second_gap

-- a list has these numbers
pub record IsPrefix (k m : ℕ) (prefix : BucketPrefix) : Type 0 where
  pub list : List ℕ
  pub has : HasNumbers k m list prefix

-- a window of length k+1: its prefix has these numbers, and its last identifier has this position among those that the
-- prefix without its first two identifiers lacks
pub record IsLonger (k m : ℕ) (prefix : BucketPrefix) (place : ℕ) (window : List ℕ) : Type 0 where
  pub window_is : IsWindow (k + 1) m window
  pub front : HasNumbers k m (take k window) prefix
  pub place_is : length (unused (slice_index window k) (drop 2 (take k window))) ≡ place

-- the list after one with these numbers has those
abbrev pub IsNextPrefix : ℕ → ℕ → BucketPrefix → BucketPrefix → Type 0
IsNextPrefix k m prefix next =
    (list : List ℕ) → HasNumbers k m list prefix → (later : List ℕ) × IsNext k m list later × HasNumbers k m later next

-- no list is after one with these numbers
abbrev pub IsLastPrefix : ℕ → ℕ → BucketPrefix → Type 0
IsLastPrefix k m prefix = (list : List ℕ) → HasNumbers k m list prefix → IsLast k m list

-- the first window after one of length k+1; it is the first of a bucket whose prefix has these numbers
pub record BeginsBucket (k m : ℕ) (last : List ℕ) (prefix : BucketPrefix) : Type 0 where
  pub window : List ℕ
  pub window_is : IsWindow (k + 1) m window
  pub follows : IsNext (k + 1) m last window
  pub has : HasNumbers k m (take k window) prefix
  pub first : IsFirstOfBucket k m window

-- the bucket after that of the prefix with these numbers has the prefix with those
abbrev pub IsPrefixOfNextBucket : ℕ → ℕ → BucketPrefix → BucketPrefix → Type 0
IsPrefixOfNextBucket k m prefix next =
    (last : List ℕ) → IsWindow (k + 1) m last → IsLastOfBucket (k + 1) m last →
    HasNumbers k m (take k last) prefix → BeginsBucket k m last next

-- no bucket is after that of the prefix with these numbers
abbrev pub IsPrefixOfLastBucket : ℕ → ℕ → BucketPrefix → Type 0
IsPrefixOfLastBucket k m prefix =
    (last : List ℕ) → IsWindow (k + 1) m last → IsLastOfBucket (k + 1) m last →
    HasNumbers k m (take k last) prefix → IsLast (k + 1) m last
