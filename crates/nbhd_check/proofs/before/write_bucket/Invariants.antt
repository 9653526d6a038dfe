use Rattle.std.proofs.Common.{◌≡◌, ◌+◌, ◌*◌, length}
use Rattle.nbhd_check.specs.ChannelsBefore.{AreBefore}
use Rattle.nbhd_check.specs.Buckets.{wide}
use Rattle.nbhd_check.proofs.before.write_bucket.Given as goal

-- the channels of the bucket's windows so far are written
abbrev pub invariant-loop-place : goal.invariant-loop-place
invariant-loop-place l =
    (length l.before ≡ length l.initial.before) × AreBefore l.table (l.next.bucket * wide l.table + l.place) l.before
