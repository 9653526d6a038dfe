use Rattle.std.proofs.Common.{◌≡◌, ◌-◌, ◌<◌, ◌≤◌, List, ℕ, length, IfSome}
use Rattle.round_eval.specs.Entries.{Asked}
use Rattle.unroll.specs.Parts.{window_in, InBucket, IsKnownBlock}
use Rattle.unroll.specs.WideColumns.{AreTakenInBucket}
use Rattle.unroll.proofs.gathering.gather_bucket.Given as goal
use Rattle.win_index.specs.declared.limits.TheConstants.{BLOCK_WINDOWS}

abbrev pub invariant-loop-block : goal.invariant-loop-block
invariant-loop-block g l =
    record {
      after : l.from ≤ l.place;
      within : l.place < l.len;
      at_inside : l.at < l.bucket.places.end;
      asked : Asked g.S.Source.plan g.S.Source.fixed g.S.Source.entries l.fn.source l.source;
      here : (w : List ℕ) × InBucket l.upper (window_in l.upper l.reached.index) l.bucket l.place l.at w;
      last : IfSome l.last (λ b. IsKnownBlock l.upper.plan.now (g.S.Source.entries l.source) l.upper.below b.now);
      wide : length l.sent ≡ BLOCK_WINDOWS;
      taken : AreTakenInBucket (g.S.Source.entries l.source) l.upper l.bucket l.from l.place l.sent;
    }

abbrev pub decreases-loop-block : goal.decreases-loop-block
decreases-loop-block g l = l.len - l.place
