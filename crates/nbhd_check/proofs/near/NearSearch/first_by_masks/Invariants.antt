use Rattle.std.proofs.Common.{◌+◌, ◌-◌, ◌*◌}
use Rattle.nbhd_check.specs.Buckets.{AreFree, BeginsBadTuple, wide}
use Rattle.nbhd_check.proofs.near.NearSearch.first_by_masks.Given as goal

-- no window of the bucket before this one begins a bad tuple
abbrev pub invariant-loop-place : goal.invariant-loop-place
invariant-loop-place l =
    AreFree l.self.table.now (BeginsBadTuple l.self.table.now (record { near = l.self.distance; far = 0 }))
    (l.buckets.bucket * wide l.self.table.now) (l.buckets.bucket * wide l.self.table.now + l.place)

abbrev pub decreases-loop-place : goal.decreases-loop-place
decreases-loop-place l = wide l.self.table.now - l.place
