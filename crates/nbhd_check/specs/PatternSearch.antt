-- The search for windows that begin a tuple that a pattern matches, bucket by bucket: the identifiers of a bucket's
-- windows but the last are shared by the first and the second window of three in a row.
use Rattle.std.specs.Prelude.{◌≡◌, ◌≢◌, ℕ, ◌+◌, ◌*◌, ◌<◌, List, Some, drop, length, slice_get, slice_index}
use Rattle.win_index.specs.Arcs.{part_at}
use Rattle.win_index.specs.Windows.{windows}
use Rattle.channel_tables.specs.Tables.{ChannelTable, windows_of}
use Rattle.ring_problems.specs.declared.pattern.Pattern.{Pattern}
use Rattle.ring_problems.specs.Patterns.{IsForbidden}
use Rattle.ring_problems.specs.TupleLists.{IsTuple}
use Rattle.ring_problems.specs.Problems.{IsBad}
use Rattle.nbhd_check.specs.declared.near.SecondBuckets.{SecondBuckets}
use Rattle.nbhd_check.specs.Buckets.{second_gap, second_bucket, wide}

-- a tuple that begins with the window is bad
abbrev pub BeginsForbidden : ChannelTable → List Pattern → List ℕ → Type 0
BeginsForbidden t problem window =
    (tuple : List ℕ) × IsTuple t.ids t.rounds problem tuple × (part_at t.rounds 0 tuple ≡ window)
    × IsBad t problem tuple

-- none of the windows below a number is bad that have the identifiers of the bucket after the first
abbrev pub IsFreeBefore : ChannelTable → List Pattern → ℕ → ℕ → Type 0
IsFreeBefore t problem least bucket =
    (number : ℕ) (window : List ℕ) → number < least → slice_get (windows_of t) number ≡ Some window
    → slice_get (windows (2 * t.rounds) t.ids) bucket ≡ Some (drop 1 window) → ¬ BeginsForbidden t problem window

-- the channels of three windows in a row are forbidden: of the one before the window at a place of the bucket, of the
-- one at another place, and of one at a place of the bucket of its next windows
abbrev pub AreBroken : ChannelTable → List Pattern → List ℕ → SecondBuckets → ℕ → ℕ → ℕ → Type 0
AreBroken t problem before buckets first second third =
    (slice_index before (buckets.bucket * wide t + first) < t.channels)
    × IsForbidden problem (Some (slice_index before (buckets.bucket * wide t + first)))
    (Some (slice_index t.entries (buckets.bucket * wide t + second)))
    (Some (slice_index t.entries (second_bucket buckets second * wide t + third)))

-- none of the third ones does that with these two
abbrev pub IsPairClear : ChannelTable → List Pattern → List ℕ → SecondBuckets → ℕ → ℕ → Type 0
IsPairClear t problem before buckets first second =
    (third : ℕ) → third < wide t → third ≢ second_gap buckets second
    → ¬ AreBroken t problem before buckets first second third

-- no two others do that with this first one
abbrev pub IsFirstClear : ChannelTable → List Pattern → List ℕ → SecondBuckets → ℕ → Type 0
IsFirstClear t problem before buckets first =
    (second : ℕ) → second < wide t → first ≢ second → IsPairClear t problem before buckets first second

-- no two others do that with this second one
abbrev pub IsSecondClear : ChannelTable → List Pattern → List ℕ → SecondBuckets → ℕ → Type 0
IsSecondClear t problem before buckets second =
    (first : ℕ) → first < wide t → first ≢ second → IsPairClear t problem before buckets first second

-- the channel of the window with this number is not forbidden between those of two others
abbrev pub IsNoMiddle : ChannelTable → List Pattern → ℕ → Type 0
IsNoMiddle t problem number =
    (first third : ℕ) → first < length t.entries → third < length t.entries → first ≢ number → third ≢ number
    → ¬ IsForbidden problem (Some (slice_index t.entries first)) (Some (slice_index t.entries number))
    (Some (slice_index t.entries third))
