use Rattle.std.proofs.Common.{◌≡◌, ◌*◌, length}
use Rattle.nbhd_check.specs.ChannelsBefore.{AreBefore}
use Rattle.nbhd_check.specs.Buckets.{wide}
use Rattle.nbhd_check.proofs.before.write_all.Given as goal

-- the channels of the windows of the buckets so far are written
abbrev pub invariant-loop-bucket : goal.invariant-loop-bucket
invariant-loop-bucket l = (length l.before ≡ length l.initial.before)
    × AreBefore l.table (l.bucket * wide l.table) l.before
