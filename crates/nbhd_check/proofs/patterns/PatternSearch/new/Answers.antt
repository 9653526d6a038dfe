use Rattle.std.proofs.Common.{subst, sym}
use Rattle.nbhd_check.specs.MiddleBuckets.{AreMiddleBuckets}
use Rattle.nbhd_check.proofs.patterns.PatternSearch.new.Goals as goal

pub channels_before-requires-clause-buckets : goal.channels_before-requires-clause-buckets
channels_before-requires-clause-buckets g c =
    subst (AreMiddleBuckets c.args.tuples.windows.now 0) (sym c.deref.ensures.value) c.in_ok-middles.ensures.buckets
