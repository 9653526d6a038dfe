use Rattle.std.proofs.Common.{◌≡◌, ◌*◌, ◌<◌, Some, slice_get}
use Rattle.channel_tables.specs.Tables.{windows_of}
use Rattle.nbhd_check.specs.Buckets.{AreFree, wide}
use Rattle.nbhd_check.proofs.bucket_search.scan_buckets.Given as goal

-- the window is the first one of the bucket, and no window of the buckets before it is bad
abbrev pub invariant-loop-bucket : goal.invariant-loop-bucket
invariant-loop-bucket g l =
    (l.bucket < l.high → slice_get (windows_of (g.S.BucketSearch.searched l.search)) (l.bucket * wide (g.S.BucketSearch.searched l.search)) ≡ Some l.window)
    × AreFree (g.S.BucketSearch.searched l.search) (g.S.BucketSearch.Bad l.search)
    (l.low * wide (g.S.BucketSearch.searched l.search)) (l.bucket * wide (g.S.BucketSearch.searched l.search))
