use Rattle.std.proofs.Common.{refl}
use Rattle.win_index.specs.Buckets.{IsAtPlace}
use Rattle.win_index.proofs.SeriesPlaces.{at_place, first_place}
use Rattle.win_index.proofs.series.BucketPlaces.first.Goals as goal

pub returns-clause-place : goal.returns-clause-place
returns-clause-place c k m window some is has least =
    let at' : IsAtPlace k m c.args.self window _ = record { window_is = is; bucket_has = has; place_is = refl } in
    record {
      window_is = is;
      bucket_has = has;
      place_is = first_place some at' _ _ least c.past_gap.ensures c.past_gap-2.ensures;
    }

pub returns-clause-inside : goal.returns-clause-inside
returns-clause-inside c k m window some is has least =
    (at_place some (returns-clause-place c k m window some is has least)).inside
