use Rattle.std.proofs.Common.{◌<◌, length, get_or, subst, sym}
use Rattle.nbhd_check.specs.MiddleBuckets.{IsMiddleBucket}
use Rattle.nbhd_check.proofs.MiddleSteps.{known_bucket, bucket_among, wide_some}
use Rattle.nbhd_check.proofs.patterns.PatternSearch.middle.Goals as goal

pub bounds-middles-bucket : goal.bounds-middles-bucket
bounds-middles-bucket c =
    let self' = c.args.self.now in
    subst (λ list. c.args.bucket < length list) (sym c.deref-middles.ensures.value)
    (bucket_among self'.table.now (length self'.middles.items) c.args.bucket (wide_some self'.table.now self'.table_is) self'.all c.requires)

pub returns : goal.returns
returns c =
    let self' = c.args.self.now in
    subst (λ list. IsMiddleBucket self'.table.now c.args.bucket (get_or list c.args.bucket (record { first = 0; gap = 0; words = record { once = 0; more = 0 } }))) (sym c.deref-middles.ensures.value)
    (known_bucket self'.table.now self'.middles.items c.args.bucket _ self'.buckets_are
    (bucket_among self'.table.now (length self'.middles.items) c.args.bucket (wide_some self'.table.now self'.table_is) self'.all c.requires))
