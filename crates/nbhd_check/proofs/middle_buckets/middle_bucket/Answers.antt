use Rattle.std.proofs.Common.{subst, arith}
use Rattle.nbhd_check.specs.Buckets.{SecondBucketsOf}
use Rattle.nbhd_check.specs.ChannelSets.{HasWords}
use Rattle.nbhd_check.proofs.MiddleSteps.{next_known, next_small}
use Rattle.nbhd_check.proofs.BucketSteps.{bucket_end}
use Rattle.nbhd_check.proofs.middle_buckets.middle_bucket.Goals as goal

pub overflow_cast-result : goal.overflow_cast-result
overflow_cast-result c =
    omega (arith, (next_small c.args.table.now c.second_buckets-next.result c.requires.table c.second_buckets-next.ensures.buckets).0)

pub overflow_cast-result-2 : goal.overflow_cast-result-2
overflow_cast-result-2 c =
    omega (arith, (next_small c.args.table.now c.second_buckets-next.result c.requires.table c.second_buckets-next.ensures.buckets).1)

pub channels_of-requires : goal.channels_of-requires
channels_of-requires c =
    omega (arith, bucket_end c.args.table.now c.args.bucket c.args.window.now c.requires.window, c.requires.table.size)

pub returns : goal.returns
returns c =
    let t = c.args.table.now in
    record {
      next =
          next_known t _ c.requires.table
          (subst (λ bucket. SecondBucketsOf t (record { bucket = bucket; first = c.second_buckets-next.result.first; gap = c.second_buckets-next.result.gap }))
          c.second_buckets-next.ensures.bucket c.second_buckets-next.ensures.buckets);
      words = subst (λ list. HasWords list c.words_of.result) c.channels_of.ensures c.words_of.ensures;
    }
