use Rattle.std.proofs.Common.{◌+◌, ◌*◌, subst}
use Rattle.nbhd_check.specs.Buckets.{AreFreeUntil, BeginsBadTuple, wide}
use Rattle.nbhd_check.proofs.near.NearSearchBucketSearch.first_in_bucket.Goals as goal

pub returns-then-is_empty : goal.returns-then-is_empty
returns-then-is_empty c =
    let t = c.args.self.now.table.now in
    subst (λ r. AreFreeUntil t (BeginsBadTuple t (record { near = c.args.self.now.distance; far = 0 })) (r * wide t) (r * wide t + wide t) c.first_close.result)
    c.second_buckets-buckets.ensures.bucket c.first_close.ensures

pub returns-else-is_empty : goal.returns-else-is_empty
returns-else-is_empty c =
    let t = c.args.self.now.table.now in
    subst (λ r. AreFreeUntil t (BeginsBadTuple t (record { near = c.args.self.now.distance; far = 0 })) (r * wide t) (r * wide t + wide t) c.first_by_masks.result)
    c.second_buckets-buckets.ensures.bucket c.first_by_masks.ensures
