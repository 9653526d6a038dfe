use Rattle.std.proofs.Common.{◌+◌, ◌*◌, ◌^◌, ◌<◌, arith}
use Rattle.nbhd_check.proofs.BucketSteps.{small_bucket}
use Rattle.nbhd_check.proofs.Suffixes.{bucket_within}
use Rattle.nbhd_check.proofs.near.NearSearch.first_by_masks.Goals.{After-windows_per_bucket-each}
use Rattle.nbhd_check.proofs.near.NearSearch.first_by_masks.Goals as goal

-- the bucket's numbers are small
bucket_small : (c : After-windows_per_bucket-each)
    → c.args.buckets.bucket * c.windows_per_bucket-each.result + c.windows_per_bucket-each.result < 2 ^ 32
bucket_small c =
    let t = c.args.self.now.table.now in
    let table = c.windows_per_bucket-each.ensures.table in
    let within = bucket_within t c.args.buckets.bucket c.requires.front table.size c.requires.front_at in
    small_bucket t c.args.buckets.bucket c.windows_per_bucket-each.result table c.windows_per_bucket-each.ensures.value
    (omega (arith, within, table.size))

pub overflow_mul-result : goal.overflow_mul-result
overflow_mul-result c = omega (arith, bucket_small (goal.at.overflow_mul-result c).After-windows_per_bucket-each)

pub overflow_add-result : goal.overflow_add-result
overflow_add-result c = omega (arith, bucket_small (goal.at.overflow_add-result c).After-windows_per_bucket-each, c.pass_over-next.ensures.range.1, c.windows_per_bucket-each.ensures.value)

pub overflow_cast-result : goal.overflow_cast-result
overflow_cast-result c =
    omega (
      arith,
      bucket_small (goal.at.overflow_cast-result c).After-windows_per_bucket-each,
      c.pass_over-next.ensures.range.1,
      c.windows_per_bucket-each.ensures.value,
    )
