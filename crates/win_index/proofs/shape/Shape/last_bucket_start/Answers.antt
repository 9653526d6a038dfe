use Rattle.std.proofs.Common.{◌≡◌, ◌+◌, ◌-◌, ◌*◌, drop, refl, arith}
use Rattle.win_index.proofs.Levels.{few_of_shape}
use Rattle.win_index.proofs.BucketStarts.{bucket_start_is}
use Rattle.win_index.proofs.shape.Shape.last_bucket_start.Goals as goal

pub returns : goal.returns
returns c = λ list has.
    let low : 2 * c.args.below + 2 - 2 ≡ 2 * c.args.below = omega arith in
    bucket_start_is (2 * c.args.below) c.args.self.now.ids c.args.prefix.last _ (drop 2 list) (rw low at has.last) refl

pub overflow_mul-result-2 : goal.overflow_mul-result-2
overflow_mul-result-2 c =
    let bucket = returns c c.requires.prefix.list c.requires.prefix.has in
    omega (arith, bucket.within, few_of_shape c.args.self.now (2 * c.args.below + 1) (omega (arith, c.requires.below)))
