-- Buckets: the tuples that begin with one window, and the channels of their later windows.
use Rattle.std.specs.Prelude.{◌≡◌, ◌≢◌, ℕ, ◌+◌, ◌-◌, ◌*◌, ◌<◌, ◌≤◌, cond, nat_lt, Option, MatchOption, List, length}
use Rattle.std.specs.Prelude.{drop, slice_get, slice_index, Some}
use Rattle.std.specs.Int.{abs_diff}
use Rattle.win_index.specs.Arcs.{part_at}
use Rattle.win_index.specs.Windows.{unused, windows, IsWindow}
use Rattle.channel_tables.specs.Tables.{ChannelTable, channel_of, windows_of}
use Rattle.channel_tables.specs.declared.separation.Separation.{Separation}
use Rattle.channel_tables.specs.Apart.{extra, AreClose, IsBad}
use Rattle.nbhd_check.specs.declared.near.SecondBuckets.{SecondBuckets}

-- a tuple that begins with the window is bad
abbrev pub BeginsBadTuple : ChannelTable → Separation → List ℕ → Type 0
BeginsBadTuple t s window =
    (tuple : List ℕ) × IsWindow (2 * t.rounds + 1 + extra s) t.ids tuple × (part_at t.rounds 0 tuple ≡ window)
    × IsBad t s tuple

-- a list of 2t+3 distinct identifiers begins with the window, and its third window is closer than the distance
unfoldable pub BeginsFarTuple : ChannelTable → ℕ → List ℕ → Type 0
BeginsFarTuple t distance window =
    (tuple : List ℕ) × IsWindow (2 * t.rounds + 3) t.ids tuple × (part_at t.rounds 0 tuple ≡ window)
    × AreClose distance (channel_of t (part_at t.rounds 0 tuple)) (channel_of t (part_at t.rounds 2 tuple))

-- the number of windows of a bucket, the windows that begin with the same 2t identifiers
abbrev pub wide : ChannelTable → ℕ
wide t = t.ids - 2 * t.rounds

-- no window with a number from low on and below high is bad
abbrev pub AreFree : ChannelTable → (List ℕ → Type 0) → ℕ → ℕ → Type 0
AreFree t bad low high =
    (number : ℕ) (window : List ℕ) → low ≤ number → number < high
    → slice_get (windows_of t) number ≡ Some window → ¬ bad window

-- no window with a number from low on is bad before the one that was found, or below high if none was
abbrev pub AreFreeUntil : ChannelTable → (List ℕ → Type 0) → ℕ → ℕ → Option ℕ → Type 0
AreFreeUntil t bad low high found = MatchOption found (AreFree t bad low high) (AreFree t bad low)

-- a channel of the list differs from this one by less than the distance
abbrev pub HasClose : List ℕ → ℕ → ℕ → Type 0
HasClose list distance channel = (place : ℕ) × (place < length list)
    × (abs_diff channel (slice_index list place) < distance)

-- the list has such a channel at another index than the gap
abbrev pub HasCloseOutside : List ℕ → ℕ → ℕ → ℕ → Type 0
HasCloseOutside list gap distance channel =
    (place : ℕ) × (place < length list) × (place ≢ gap) × (abs_diff channel (slice_index list place) < distance)

-- the bucket of the second windows after the window at this place of a bucket
abbrev pub second_bucket : SecondBuckets → ℕ → ℕ
second_bucket buckets place = buckets.first + place + cond (nat_lt place buckets.gap) 0 1

-- the place in that bucket of the window that would end in the first identifier of the bucket
abbrev pub second_gap : SecondBuckets → ℕ → ℕ
second_gap buckets place = buckets.gap - cond (nat_lt place buckets.gap) 1 0

-- where the second windows of a bucket are: its windows begin with 2t identifiers, of which all but the first have a
-- number as a list, and the first one a place among the identifiers that the others lack
pub record SecondBucketsOf (t : ChannelTable) (buckets : SecondBuckets) : Type 0 where
  pub some : 1 ≤ t.rounds
  pub front : List ℕ
  pub front_at : slice_get (windows (2 * t.rounds) t.ids) buckets.bucket ≡ Some front
  pub number : ℕ
  pub number_at : slice_get (windows (2 * (t.rounds - 1) + 1) t.ids) number ≡ Some (drop 1 front)
  pub first_is : buckets.first ≡ number * (t.ids - (2 * (t.rounds - 1) + 1))
  pub gap_is : buckets.gap ≡ length (unused (slice_index front 0) (drop 1 front))
