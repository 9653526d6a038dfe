use Rattle.std.proofs.Common.{◌≡◌, ◌+◌, ◌<◌, length, subst, sym, ◌∙◌, ap}
use Rattle.std.proofs.lemmas.List.{get_or_default}
use Rattle.border_exchange.specs.Needs.{from_left, from_right}
use Rattle.ring_core.specs.Machine.{Machine, CanAdvance, Steps, segment_at}
use Rattle.ring_core.specs.MachinePromises.{segment_after_rounds}
use Rattle.ring_core.specs.Progress.{Progress, Parts, no_part, part_at, at_round, machine_of}
use Rattle.ring_core.specs.declared.event.RingEvent.TheVariants.{Advance}
use Rattle.ring_core.proofs.Fits.{MayAdvance}
use Rattle.ring_core.proofs.Enabled.{is_part, may_advance, unfinished}
use Rattle.ring_core.proofs.Readings.{now_is}
use Rattle.ring_core.proofs.Events.{after, advanced_fits, advance_steps}
use Rattle.ring_core.proofs.world.World.advance.Goals.{After-index_mut}
use Rattle.ring_core.proofs.world.World.advance.Goals as goal

-- the part that advances
module _ (c : After-index_mut) where
  abbrev before : Parts
  before = record { plan = c.self.inside.plan.now; ring = c.self.inside.ring.now; items = c.self.inside.parts.items }

  can : CanAdvance (machine_of before) c.args.segment
  can = subst (λ (m : Machine). CanAdvance m c.args.segment) (sym c.self.view_is) c.in-Some.ensures.some

  inside : c.args.segment < length before.items
  inside = is_part before c.self.invariant c.args.segment can.is_segment

  part_is : c.index_mut.result.now ≡ part_at before c.args.segment
  part_is = c.index_mut.ensures.value ∙ get_or_default before.items c.args.segment c.index_mut.result.now no_part inside

  may : MayAdvance before c.args.segment
  may = may_advance before c.self.invariant c.args.segment can

  segment_is : (λ (m : Machine). segment_after_rounds m c.args.segment (segment_at m c.args.segment).round)
      c.args.self.now ≡ c.index_mut.result.now.segment
  segment_is =
      ap (λ (m : Machine). segment_after_rounds m c.args.segment (segment_at m c.args.segment).round)
      (sym c.self.view_is)
      ∙ now_is before c.self.invariant c.args.segment inside ∙ sym (c.self.invariant.segments_are c.args.segment inside)
      ∙ ap (λ (p : Progress). p.segment) (sym part_is)

pub advance-requires-clause-unfinished : goal.advance-requires-clause-unfinished
advance-requires-clause-unfinished c =
    let d = (goal.at.advance-requires-clause-unfinished c).After-index_mut in
    subst (λ (p : Progress). p.segment.round < length p.segment.plan.program.steps) (sym (part_is d))
    (unfinished (before d) c.self.invariant c.args.segment (inside d) (may d))

pub advance-requires-clause-left : goal.advance-requires-clause-left
advance-requires-clause-left c =
    c.in-Some.ensures.left ∙ ap from_left (segment_is (goal.at.advance-requires-clause-left c).After-index_mut)

pub advance-requires-clause-right : goal.advance-requires-clause-right
advance-requires-clause-right c =
    c.in-Some.ensures.right ∙ ap from_right (segment_is (goal.at.advance-requires-clause-right c).After-index_mut)

pub invariant_of-self : goal.invariant_of-self
invariant_of-self c =
    let d = (goal.at.invariant_of-self c).After-index_mut in
    let new = c.advance.ensures
    ∙ ap (λ (p : Progress). record p { segment = at_round p.segment (p.segment.round + 1) }) (part_is d) in
    advanced_fits (before d) c.self.invariant c.args.segment c.advance.new.self (inside d) (may d) new

pub returns-in-Some : goal.returns-in-Some
returns-in-Some c =
    let d = (goal.at.returns-in-Some c).After-index_mut in
    let new = c.advance.ensures
    ∙ ap (λ (p : Progress). record p { segment = at_round p.segment (p.segment.round + 1) }) (part_is d) in
    subst (λ (m : Machine). Steps m (Advance c.args.segment)
    (machine_of (after (before d) c.self.invariant c.args.segment c.advance.new.self))) c.self.view_is
    (advance_steps (before d) c.self.invariant c.args.segment c.advance.new.self c.stretches_are_rows.ensures
    (inside d) (may d) new)
