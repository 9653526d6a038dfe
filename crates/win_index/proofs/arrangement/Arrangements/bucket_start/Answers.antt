use Rattle.std.proofs.Common.{◌-◌, ◌*◌, ap, arith}
use Rattle.win_index.specs.Buckets.{IsBucketStart}
use Rattle.win_index.proofs.BucketStarts.{bucket_start_is}
use Rattle.win_index.proofs.arrangement.Arrangements.bucket_start.Goals as goal

pub overflow_mul-result : goal.overflow_mul-result
overflow_mul-result c =
    let start : IsBucketStart c.args.self.len c.args.self.ids c.args.front.now
    (c.number.result * (c.from.result - c.args.self.len)) =
    bucket_start_is _ c.args.self.ids c.number.result _ c.args.front.now c.number.ensures.item
    (ap (λ n. c.number.result * n) (omega (arith, c.from.ensures))) in
    omega (arith, start.within, c.requires.few)

pub returns : goal.returns
returns c =
    bucket_start_is _ c.args.self.ids c.number.result _ c.args.front.now c.number.ensures.item
    (ap (λ n. c.number.result * n) (omega (arith, c.from.ensures)))
