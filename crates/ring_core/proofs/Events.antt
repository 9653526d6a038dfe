-- Events, as the code applies them to the parts.
use Rattle.std.proofs.Common.{◌≡◌, ℕ, ◌+◌, ◌<◌, length, arith, refl, inl, inr}
use Rattle.std.proofs.Math.ListN.{set}
use Rattle.border_exchange.specs.declared.Side.{Side}
use Rattle.border_exchange.specs.declared.Side.TheVariants.{Rightward, Leftward}
use Rattle.round_eval.specs.Laws.{StretchesAreRows}
use Rattle.ring_core.specs.declared.event.RingEvent.TheVariants.{Advance}
use Rattle.ring_core.specs.Machine.{Steps}
use Rattle.ring_core.specs.Progress.{Progress, Parts, FitTogether, MaySend, part_at, round_at, at_round, sent_by}
use Rattle.ring_core.specs.Progress.{after_sending, sending, machine_of}
use Rattle.ring_core.proofs.Enabled.{is_part, can_send, can_advance, may_send}
use Rattle.ring_core.proofs.Views.{own_right_size, own_left_size}
use Rattle.ring_core.proofs.Fits.{MayAdvance, fits, sent_next, advanced_next}
use Rattle.ring_core.proofs.Moves.{right_moves, left_moves, advance_moves}

module _ (v : Parts) (kept : FitTogether v) (s : ℕ) where
  abbrev pub after : Progress → Parts
  after new = record v { items = set v.items s new }

  pub sent_fits : (side : Side) (new : Progress) → s < length v.items
      → MaySend (part_at v s).segment (sent_by (part_at v s) side) → new ≡ after_sending (part_at v s) side
      → FitTogether (after new)
  sent_fits side new lt may is = fits v s new kept lt (sent_next v s new side kept lt may is)

  pub advanced_fits : (new : Progress) → s < length v.items → MayAdvance v s
      → new ≡ record (part_at v s) { segment = at_round (part_at v s).segment (round_at v s + 1) }
      → FitTogether (after new)
  advanced_fits new lt may is = fits v s new kept lt (advanced_next v s new kept lt may is)

  pub sent_steps : (side : Side) (new : Progress) → s < length v.items
      → MaySend (part_at v s).segment (sent_by (part_at v s) side) → new ≡ after_sending (part_at v s) side
      → Steps (machine_of v) (sending side s) (machine_of (after new))
  sent_steps Rightward new lt may is =
      let step = kept.right_in_step s lt in
      inl (can_send v kept s _ _ lt (own_right_size v kept s lt) may, right_moves v kept s lt new (omega (arith, may.unsent, step.low)) is)
  sent_steps Leftward new lt may is =
      let step = kept.left_in_step s lt in
      inl (can_send v kept s _ _ lt (own_left_size v kept s lt) may, left_moves v kept s lt new (omega (arith, may.unsent, step.low)) is)

  pub advance_steps : (new : Progress) → StretchesAreRows → s < length v.items → MayAdvance v s
      → new ≡ record (part_at v s) { segment = at_round (part_at v s).segment (round_at v s + 1) }
      → Steps (machine_of v) (Advance s) (machine_of (after new))
  advance_steps new law lt may is = inl (can_advance v kept s lt may, advance_moves v kept s lt new law may is)

  -- a part that may not move stays
  pub idle : (side : Side) → (s < length v.items → ¬ MaySend (part_at v s).segment (sent_by (part_at v s) side)) →
      Steps (machine_of v) (sending side s) (machine_of v)
  idle Rightward none =
      inr (
        λ can. let lt = is_part v kept s can.is_segment in
            none lt (may_send v kept s _ _ (own_right_size v kept s lt) can),
        refl,
      )
  idle Leftward none =
      inr (
        λ can. let lt = is_part v kept s can.is_segment in
            none lt (may_send v kept s _ _ (own_left_size v kept s lt) can),
        refl,
      )
