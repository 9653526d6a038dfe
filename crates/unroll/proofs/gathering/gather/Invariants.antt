use Rattle.std.proofs.Common.{◌≡◌, ◌+◌, ◌-◌, ◌*◌}
use Rattle.round_eval.specs.Entries.{Asked}
use Rattle.unroll.specs.Parts.{IsAtIndex, IsNear}
use Rattle.unroll.specs.WideColumns.{IsReady, AreGathered}
use Rattle.unroll.proofs.NextBuckets.{IsPlaced}
use Rattle.unroll.proofs.gathering.gather.Given as goal

abbrev pub invariant-loop-bucket : goal.invariant-loop-bucket
invariant-loop-bucket g l =
    record {
      asked : Asked g.S.Source.plan g.S.Source.fixed g.S.Source.entries l.fn.source l.source;
      here : IsAtIndex l.upper l.index l.prefixes.prefix;
      lists : (l.prefixes.lists.ids ≡ l.upper.plan.now.ids) × (l.prefixes.lists.len ≡ 2 * l.below + 2);
      placed : IsPlaced l.upper l.index l.place;
      near : IsNear l.upper.plan.now (g.S.Source.entries l.source) l.below l.near;
      ready : IsReady l.upper.plan.now l.scratch;
      gathered : AreGathered (g.S.Source.entries l.source) l.upper l.index l.scratch;
    }

abbrev pub decreases-loop-bucket : goal.decreases-loop-bucket
decreases-loop-bucket g l = l.len - l.index
