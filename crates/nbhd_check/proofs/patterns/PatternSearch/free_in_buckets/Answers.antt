use Rattle.std.proofs.Common.{◌+◌, ◌*◌, ◌≤◌, subst, sym, ap, arith}
use Rattle.std.proofs.Math.Nat.{mul-le-mul_right}
use Rattle.nbhd_check.specs.MiddleBuckets.{AreNextBuckets}
use Rattle.nbhd_check.specs.PatternSearch.{IsFreeBefore}
use Rattle.nbhd_check.specs.Buckets.{wide}
use Rattle.nbhd_check.proofs.Cells.{row_more}
use Rattle.nbhd_check.proofs.PatternSteps.{buckets_more}
use Rattle.nbhd_check.proofs.patterns.PatternSearch.free_in_buckets.Goals as goal

pub middle-requires : goal.middle-requires
middle-requires c =
    let t = c.args.self.now.table.now in
    let more : (c.loop-bucket.bucket + 1) * wide t ≤ c.args.high * wide t =
    mul-le-mul_right (wide t) (omega (arith, c.loop-bucket-test.true)) in
    omega (arith, more, row_more c.loop-bucket.bucket (wide t), c.requires)

pub free_in_bucket-least-requires : goal.free_in_bucket-least-requires
free_in_bucket-least-requires c =
    subst (AreNextBuckets c.args.self.now.table.now) (sym c.next-next.ensures) c.middle.ensures.next

pub loop-bucket-preserved : goal.loop-bucket-preserved
loop-bucket-preserved c =
    let self' = c.args.self.now in
    buckets_more self'.table.now self'.problem.now c.args.low c.loop-bucket.bucket c.loop-bucket.least c.free_in_bucket-least.result c.loop-bucket.invariant
    c.free_in_bucket-least.ensures.less
    (subst (IsFreeBefore self'.table.now self'.problem.now c.free_in_bucket-least.result) (ap (λ r. r.bucket) c.next-next.ensures) c.free_in_bucket-least.ensures.free)
