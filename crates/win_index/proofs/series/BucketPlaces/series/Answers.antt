use Rattle.std.proofs.Common.{rules, arith}
use Rattle.win_index.proofs.SeriesPlaces.{series_is, no_longer}
use Rattle.win_index.proofs.series.BucketPlaces.series.Goals as goal

pub returns : goal.returns
returns c = record {
  some = search rules;
  few = search rules;
  inside = search rules;
  series = λ k m first some is. series_is some is c.min.result (grind arith) (grind arith) (grind arith);
  whole = λ k m first some is fewer. no_longer some is c.min.result (grind arith);
}
