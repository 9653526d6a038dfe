-- The events that are enabled, from the numbers of rounds and of messages alone.
use Rattle.std.proofs.Common.{◌≡◌, ℕ, ◌<◌, List, length, arith, subst, sym, ap}
use Rattle.border_exchange.specs.Segments.{RingSegment}
use Rattle.ring_core.specs.Machine.{CanSend, CanAdvance}
use Rattle.ring_core.specs.Progress.{Parts, FitTogether, MaySend, part_at, round_at, machine_of}
use Rattle.ring_core.proofs.Fits.{MayAdvance}
use Rattle.ring_core.proofs.Views.{count_is, round_is, own_right_size, own_left_size, came_right_size, came_left_size}

module _ (v : Parts) (kept : FitTogether v) where
  -- a segment of the machine is a part
  pub is_part : (s : ℕ) → s < length (machine_of v).segments → s < length v.items
  is_part s lt = subst (λ g. s < g) (count_is v kept) lt

  pub is_segment : (s : ℕ) → s < length v.items → s < length (machine_of v).segments
  is_segment s lt = subst (λ g. s < g) (sym (count_is v kept)) lt

  steps_are : (s : ℕ) → s < length v.items →
      length (part_at v s).segment.plan.program.steps ≡ length v.plan.program.steps
  steps_are s lt = ap (λ (a : RingSegment). length a.plan.program.steps) (kept.segments_are s lt)

  pub may_send : (s count : ℕ) (sent : List ℕ) → length sent ≡ count → CanSend (machine_of v) s sent
      → MaySend (part_at v s).segment count
  may_send s count sent size can =
      let lt = is_part s can.is_segment in
      let round = round_is v kept s lt in
      record {
        unfinished = omega (arith, can.unfinished, round, steps_are s lt);
        unsent = omega (arith, can.unsent, round, size);
      }

  pub can_send : (s count : ℕ) (sent : List ℕ) → s < length v.items → length sent ≡ count
      → MaySend (part_at v s).segment count
      → CanSend (machine_of v) s sent
  can_send s count sent lt size may =
      let round = round_is v kept s lt in
      record {
        is_segment = is_segment s lt;
        unfinished = omega (arith, may.unfinished, round, steps_are s lt);
        unsent = omega (arith, may.unsent, round, size);
      }

  pub may_advance : (s : ℕ) → CanAdvance (machine_of v) s → MayAdvance v s
  may_advance s can =
      let lt = is_part s can.is_segment in
      let round = round_is v kept s lt in
      record {
        sent_right = omega (arith, can.sent_right, round, own_right_size v kept s lt);
        sent_left = omega (arith, can.sent_left, round, own_left_size v kept s lt);
        left_came = omega (arith, can.left_came, round, came_right_size v kept s lt);
        right_came = omega (arith, can.right_came, round, came_left_size v kept s lt);
      }

  pub can_advance : (s : ℕ) → s < length v.items → MayAdvance v s → CanAdvance (machine_of v) s
  can_advance s lt may =
      let round = round_is v kept s lt in
      record {
        is_segment = is_segment s lt;
        sent_right = omega (arith, may.sent_right, round, own_right_size v kept s lt);
        sent_left = omega (arith, may.sent_left, round, own_left_size v kept s lt);
        left_came = omega (arith, may.left_came, round, came_right_size v kept s lt);
        right_came = omega (arith, may.right_came, round, came_left_size v kept s lt);
      }

  -- an unfinished part has a round to do
  pub unfinished : (s : ℕ) → s < length v.items → MayAdvance v s →
      round_at v s < length (part_at v s).segment.plan.program.steps
  unfinished s lt may = let step = kept.right_in_step s lt in omega (arith, may.sent_right, step.end)
