use Rattle.std.proofs.Common.{◌≡◌, ℕ, ◌+◌, ◌*◌, ◌<◌, Some, length, slice_get}
use Rattle.channel_tables.specs.Tables.{windows_of}
use Rattle.nbhd_check.specs.declared.middle_buckets.MiddleBucket.{MiddleBucket}
use Rattle.nbhd_check.specs.MiddleBuckets.{IsMiddleBucket}
use Rattle.nbhd_check.specs.Buckets.{wide}
use Rattle.nbhd_check.proofs.middle_buckets.fill_from.Given as goal

-- the window is the first one of the bucket, and the buckets before it are known
abbrev pub invariant-loop-place : goal.invariant-loop-place
invariant-loop-place l =
    (length l.part ≡ length l.initial.part)
    × (l.place < length l.initial.part
    → slice_get (windows_of l.table) ((l.start + l.place) * wide l.table) ≡ Some l.window)
    × ((i : ℕ) (middle : MiddleBucket) → i < l.place → slice_get l.part i ≡ Some middle
    → IsMiddleBucket l.table (l.start + i) middle)
