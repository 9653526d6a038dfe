use Rattle.std.proofs.Common.{subst, sym}
use Rattle.nbhd_check.specs.MiddleBuckets.{AreNextBuckets}
use Rattle.nbhd_check.proofs.MiddleSteps.{known_bucket}
use Rattle.nbhd_check.proofs.before.write_all.Goals as goal

pub write_bucket-requires-clause-next : goal.write_bucket-requires-clause-next
write_bucket-requires-clause-next c =
    subst (AreNextBuckets c.args.table.now) (sym c.next.ensures)
    (known_bucket c.args.table.now c.args.middles.now c.loop-bucket.bucket _ c.requires.buckets
    c.loop-bucket-test.true).next
