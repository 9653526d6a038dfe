-- The searches of the judge, piece by piece: a piece is a bucket, but for counts the windows whose third windows are
-- in one family, and for patterns the windows whose second windows are in one bucket.
use Rattle.std.specs.Prelude.{◌≡◌, ℕ, ◌+◌, ◌*◌, ◌<◌, ◌≤◌, List, length, drop, slice_get, Some}
use Rattle.win_index.specs.Windows.{windows}
use Rattle.channel_tables.specs.Tables.{ChannelTable, windows_of}
use Rattle.nbhd_check.specs.Counts.{shared_lists}
use Rattle.nbhd_check.specs.PatternSearch.{BeginsForbidden}
use Rattle.nbhd_check.specs.Buckets.{BeginsBadTuple, BeginsFarTuple, wide}
use Rattle.nbhd_check.specs.declared.search.Search.{Search}
use Rattle.nbhd_check.specs.declared.search.Search.TheVariants.{Near, FarMasks, FarCounts, Patterns}

-- the table of the search
abbrev pub searched : Search → ChannelTable
searched (Near s) = s.now.table.now
searched (FarMasks s) = s.now.table.now
searched (FarCounts s) = s.table.now
searched (Patterns s) = s.now.table.now

-- the window is bad in the search's sense
abbrev pub IsBad : Search → List ℕ → Type 0
IsBad (Near s) = BeginsBadTuple s.now.table.now (record { near = s.now.distance; far = 0 })
IsBad (FarMasks s) = BeginsFarTuple s.now.table.now s.now.distance
IsBad (FarCounts s) = BeginsFarTuple s.table.now s.distance
IsBad (Patterns s) = BeginsForbidden s.now.table.now s.now.problem.now

-- a window with this number is in the bucket with this number
abbrev pub IsInBucket : ChannelTable → ℕ → ℕ → Type 0
IsInBucket t bucket number = (bucket * wide t ≤ number) × (number < bucket * wide t + wide t)

-- the window with this number is in the piece with this number
abbrev pub IsInPiece : Search → ℕ → ℕ → List ℕ → Type 0
IsInPiece (Near s) piece number window = IsInBucket s.now.table.now piece number
IsInPiece (FarMasks s) piece number window = IsInBucket s.now.table.now piece number
IsInPiece (FarCounts s) piece number window = slice_get (shared_lists s.table.now) piece ≡ Some (drop 2 window)
IsInPiece (Patterns s) piece number window = slice_get (windows (2 * s.now.table.now.rounds) s.now.table.now.ids) piece
    ≡ Some (drop 1 window)

-- the search has at least so many pieces
abbrev pub HasPieces : Search → ℕ → Type 0
HasPieces (Near s) count = count * wide s.now.table.now ≤ length (windows_of s.now.table.now)
HasPieces (FarMasks s) count = count * wide s.now.table.now ≤ length (windows_of s.now.table.now)
HasPieces (FarCounts s) count = count ≤ length (shared_lists s.table.now)
HasPieces (Patterns s) count = count * wide s.now.table.now ≤ length (windows_of s.now.table.now)

-- none of the windows below `least` in a piece from low on and below high is bad
abbrev pub AreFreeIn : Search → ℕ → ℕ → ℕ → Type 0
AreFreeIn s least low high =
    (piece number : ℕ) (window : List ℕ) → low ≤ piece → piece < high → IsInPiece s piece number window
    → number < least → slice_get (windows_of (searched s)) number ≡ Some window → ¬ IsBad s window
