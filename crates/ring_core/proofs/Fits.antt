-- The parts of a machine stay consistent after each event.
use Rattle.std.proofs.Common.{◌≡◌, ℕ, ◌+◌, ◌<◌, ◌≤◌, length, arith, refl, sym, ◌∙◌, ap}
use Rattle.std.proofs.Math.ListN.{set}
use Rattle.std.proofs.lemmas.List.{length-set}
use Rattle.border_exchange.specs.declared.Side.{Side}
use Rattle.border_exchange.specs.declared.Side.TheVariants.{Rightward, Leftward}
use Rattle.border_exchange.specs.Segments.{RingSegment}
use Rattle.ring_core.specs.Machine.{border_before, segment_after}
use Rattle.ring_core.specs.Progress.{Progress, Parts, IsInStep, FitTogether, MaySend, no_part, part_at, round_at}
use Rattle.ring_core.specs.Progress.{at_round, sent_by, after_sending}
use Rattle.ring_core.proofs.Updates.{set_cases}

-- new may replace part s
pub record IsNext (v : Parts) (s : ℕ) (new : Progress) : Type 0 where
  pub segment : new.segment ≡ at_round (part_at v s).segment new.segment.round
  pub right_in_step : IsInStep new.segment new.rightward
  pub left_in_step : IsInStep new.segment new.leftward
  pub more_right : (part_at v s).rightward ≤ new.rightward
  pub more_left : (part_at v s).leftward ≤ new.leftward
  pub left_came : new.segment.round ≤ (part_at v (border_before (length v.items) s)).rightward
  pub right_came : new.segment.round ≤ (part_at v (segment_after (length v.items) s)).leftward

pub fits :
    (v : Parts) (s : ℕ) (new : Progress) → FitTogether v → s < length v.items → IsNext v s new
    → FitTogether (record v { items = set v.items s new })
fits v s new kept lt next =
    let g = length v.items in
    let size : length (set v.items s new) ≡ g = length-set v.items s new in
    let cases = λ (k : ℕ) (P : Progress → Type 0). set_cases v.items s k new no_part P lt in
    let right = λ (k : ℕ). cases k (λ p. (part_at v k).rightward ≤ p.rightward)
    (λ same. omega (arith, next.more_right, ap (λ j. (part_at v j).rightward) same)) (λ _. omega arith) in
    let left = λ (k : ℕ). cases k (λ p. (part_at v k).leftward ≤ p.leftward)
    (λ same. omega (arith, next.more_left, ap (λ j. (part_at v j).leftward) same)) (λ _. omega arith) in
    let old = kept.segments_are s lt in
    record {
      some = rw size kept.some;
      few = rw size kept.few;
      segments_are = rw size (λ k below.
          cases k (λ p. p.segment ≡ record {
            plan = v.plan;
            ring = v.ring;
            segments = g;
            index = k;
            round = p.segment.round;
          })
          (λ same.
          next.segment ∙ ap (λ (a : RingSegment). at_round a new.segment.round) old
          ∙ ap (λ j. record { plan = v.plan; ring = v.ring; segments = g; index = j; round = new.segment.round })
          (sym same))
          (λ _. kept.segments_are k below));
      right_in_step = rw size (λ k below.
          cases k (λ p. IsInStep p.segment p.rightward) (λ _. next.right_in_step) (λ _. kept.right_in_step k below));
      left_in_step = rw size (λ k below.
          cases k (λ p. IsInStep p.segment p.leftward) (λ _. next.left_in_step) (λ _. kept.left_in_step k below));
      from_left = rw size (λ k below.
          let came = cases k (λ p. p.segment.round ≤ (part_at v (border_before g k)).rightward)
          (λ same. omega (arith, next.left_came, ap (λ j. (part_at v (border_before g j)).rightward) same))
          (λ _. kept.from_left k below) in
          omega (arith, came, right (border_before g k)));
      from_right = rw size (λ k below.
          let came = cases k (λ p. p.segment.round ≤ (part_at v (segment_after g k)).leftward)
          (λ same. omega (arith, next.right_came, ap (λ j. (part_at v (segment_after g j)).leftward) same))
          (λ _. kept.from_right k below) in
          omega (arith, came, left (segment_after g k)));
    }

-- a segment that has sent once more
one_more : (a : RingSegment) (sent : ℕ) → IsInStep a sent → MaySend a sent → IsInStep a (sent + 1)
one_more a sent step may =
    record {
      low = omega (arith, step.low);
      high = omega (arith, may.unsent);
      end = omega (arith, may.unfinished, may.unsent);
    }

pub sent_next :
    (v : Parts) (s : ℕ) (new : Progress) (side : Side) → FitTogether v → s < length v.items
    → MaySend (part_at v s).segment (sent_by (part_at v s) side) → new ≡ after_sending (part_at v s) side
    → IsNext v s new
sent_next v s new Rightward kept lt may is =
    rw is (record {
      segment = refl;
      right_in_step = one_more (part_at v s).segment (part_at v s).rightward (kept.right_in_step s lt) may;
      left_in_step = kept.left_in_step s lt;
      more_right = omega arith;
      more_left = omega arith;
      left_came = kept.from_left s lt;
      right_came = kept.from_right s lt;
    })
sent_next v s new Leftward kept lt may is =
    rw is (record {
      segment = refl;
      right_in_step = kept.right_in_step s lt;
      left_in_step = one_more (part_at v s).segment (part_at v s).leftward (kept.left_in_step s lt) may;
      more_right = omega arith;
      more_left = omega arith;
      left_came = kept.from_left s lt;
      right_came = kept.from_right s lt;
    })

-- part s may advance: it has sent both ways in its round, and its neighbours have sent to it
pub record MayAdvance (v : Parts) (s : ℕ) : Type 0 where
  pub sent_right : round_at v s < (part_at v s).rightward
  pub sent_left : round_at v s < (part_at v s).leftward
  pub left_came : round_at v s < (part_at v (border_before (length v.items) s)).rightward
  pub right_came : round_at v s < (part_at v (segment_after (length v.items) s)).leftward

pub advanced_next :
    (v : Parts) (s : ℕ) (new : Progress) → FitTogether v → s < length v.items → MayAdvance v s
    → new ≡ record (part_at v s) { segment = at_round (part_at v s).segment (round_at v s + 1) } → IsNext v s new
advanced_next v s new kept lt may is =
    let right = kept.right_in_step s lt in
    let left = kept.left_in_step s lt in
    rw is (record {
      segment = refl;
      right_in_step = record { low = omega (arith, may.sent_right); high = omega (arith, right.high); end = right.end };
      left_in_step = record { low = omega (arith, may.sent_left); high = omega (arith, left.high); end = left.end };
      more_right = omega arith;
      more_left = omega arith;
      left_came = omega (arith, may.left_came);
      right_came = omega (arith, may.right_came);
    })
