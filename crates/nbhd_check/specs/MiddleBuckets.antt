-- Buckets whose windows are the second ones of three in a row.
use Rattle.std.specs.Prelude.{◌≡◌, ℕ, ◌+◌, ◌*◌, ◌<◌, ◌≤◌, List, Some, length, take, drop, slice_get, slice_index}
use Rattle.win_index.specs.Windows.{unused, windows}
use Rattle.channel_tables.specs.Tables.{ChannelTable, windows_of}
use Rattle.nbhd_check.specs.declared.middle_buckets.MiddleBucket.{MiddleBucket}
use Rattle.nbhd_check.specs.declared.near.SecondBuckets.{SecondBuckets}
use Rattle.nbhd_check.specs.Buckets.{second_gap, second_bucket, wide}
use Rattle.nbhd_check.specs.ChannelSets.{HasWords}

-- of the channels of all windows those of a bucket
abbrev pub in_bucket : ChannelTable → List ℕ → ℕ → List ℕ
in_bucket t channels bucket = take (wide t) (drop (bucket * wide t) channels)

-- where the next windows of a bucket are
abbrev pub next_buckets : ℕ → MiddleBucket → SecondBuckets
next_buckets bucket middle = record { bucket = bucket; first = middle.first; gap = middle.gap }

-- the next windows after the window at a place of the bucket are in this bucket, where the one that ends in the first
-- identifier of that window has the gap for its place
pub record AreNextBuckets (t : ChannelTable) (buckets : SecondBuckets) : Type 0 where
  pub some : 1 ≤ t.rounds
  pub within : buckets.bucket * wide t + wide t ≤ length (windows_of t)
  pub each : (place : ℕ) (window : List ℕ) → place < wide t
      → slice_get (windows_of t) (buckets.bucket * wide t + place) ≡ Some window
      → (slice_get (windows (2 * t.rounds) t.ids) (second_bucket buckets place) ≡ Some (drop 1 window))
      × (second_gap buckets place ≡ length (unused (slice_index window 0) (drop 1 window)))

-- what is known of a bucket: where the next windows are, and the words of its channels
pub record IsMiddleBucket (t : ChannelTable) (bucket : ℕ) (middle : MiddleBucket) : Type 0 where
  pub next : AreNextBuckets t (next_buckets bucket middle)
  pub words : HasWords (in_bucket t t.entries bucket) middle.words

-- it is known of each bucket from number `start` on
abbrev pub AreMiddleBuckets : ChannelTable → ℕ → List MiddleBucket → Type 0
AreMiddleBuckets t start middles =
    (i : ℕ) (middle : MiddleBucket) → slice_get middles i ≡ Some middle → IsMiddleBucket t (start + i) middle
