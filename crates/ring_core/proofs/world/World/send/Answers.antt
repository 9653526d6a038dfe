use Rattle.std.proofs.Common.{◌≡◌, ◌<◌, length, subst, sym, ◌∙◌, ap, rules}
use Rattle.std.proofs.lemmas.List.{get_or_default}
use Rattle.ring_core.specs.Machine.{Machine, Steps}
use Rattle.ring_core.specs.Progress.{Progress, Parts, MaySend, no_part, part_at, sent_by, after_sending}
use Rattle.ring_core.specs.Progress.{sending, machine_of}
use Rattle.ring_core.proofs.Events.{after, sent_fits, sent_steps, idle}
use Rattle.ring_core.proofs.world.World.send.Goals.{In_ok-send}
use Rattle.ring_core.proofs.world.World.send.Goals as goal
use Rattle.ring_core.proofs.world.World.send.Goals.{else-index-len-via-then-index-len+else-may_send}
use Rattle.ring_core.proofs.world.World.send.Goals.{else-index-len-via-else-index-len}

-- the part that has sent
module _ (c : In_ok-send) where
  abbrev before : Parts
  before = record { plan = c.self.inside.plan.now; ring = c.self.inside.ring.now; items = c.self.inside.parts.items }

  inside : c.args.segment < length before.items
  inside = search rules

  may : MaySend (part_at before c.args.segment).segment (sent_by (part_at before c.args.segment) c.args.side)
  may =
      subst (λ (p : Progress). MaySend p.segment (sent_by p c.args.side))
      (c.index.ensures ∙ get_or_default before.items c.args.segment c.index.result.now no_part inside)
      (c.may_send.ensures.0 c.if-may_send.true)

  sent : c.send.new.self ≡ after_sending (part_at before c.args.segment) c.args.side
  sent =
      c.in_ok-send.ensures.sent
      ∙ ap (λ (p : Progress). after_sending p c.args.side)
      (c.index_mut.ensures.value ∙ get_or_default before.items c.args.segment c.index_mut.result.now no_part inside)

pub invariant_of-self-then-may_send : goal.invariant_of-self-then-may_send
invariant_of-self-then-may_send c =
    let d = (goal.at.invariant_of-self-then-may_send c).In_ok-send in
    sent_fits (before d) c.self.invariant c.args.segment c.args.side c.send.new.self (inside d) (may d) (sent d)

pub returns-in_ok-send : goal.returns-in_ok-send
returns-in_ok-send c =
    let d = (goal.at.returns-in_ok-send c).In_ok-send in
    subst (λ (m : Machine). Steps m (sending c.args.side c.args.segment)
    (machine_of (after (before d) c.self.invariant c.args.segment c.send.new.self))) c.self.view_is
    (sent_steps (before d) c.self.invariant c.args.segment c.args.side c.send.new.self (inside d) (may d) (sent d))

pub returns-else-index-len : goal.returns-else-index-len
returns-else-index-len c =
    let was = c.self.inside in
    let v : Parts = record { plan = was.plan.now; ring = was.ring.now; items = was.parts.items } in
    let s = c.args.segment in
    subst (λ (m : Machine). Steps m (sending c.args.side s) m) c.self.view_is
    (idle v c.self.invariant s c.args.side (λ lt may. elim c.else-index-len.branch [
      | else-index-len-via-then-index-len+else-may_send w ↦
          let read : w.index.result.now ≡ part_at v s = w.index.ensures
          ∙ get_or_default v.items s w.index.result.now no_part lt in
          let can = w.may_send.ensures.1
          (subst (λ (p : Progress). MaySend p.segment (sent_by p c.args.side)) (sym read) may) in
          search rules
      | else-index-len-via-else-index-len w ↦ absurd (search rules)
    ]))
