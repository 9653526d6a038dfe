use Rattle.std.proofs.Common.{◌≡◌, ◌<◌, length, subst, sym, ◌∙◌, ap}
use Rattle.std.proofs.lemmas.List.{get_or_default}
use Rattle.ring_core.specs.Machine.{Machine, left_border, right_border}
use Rattle.ring_core.specs.Progress.{Progress, Parts, no_part, part_at}
use Rattle.ring_core.proofs.Views.{own_right_size, own_left_size}
use Rattle.ring_core.proofs.Enabled.{is_part}
use Rattle.ring_core.proofs.world.World.part.Goals.{After-index}
use Rattle.ring_core.proofs.world.World.part.Goals as goal

module _ (c : After-index) where
  abbrev parts : Parts
  parts = record { plan = c.self.inside.plan.now; ring = c.self.inside.ring.now; items = c.self.inside.parts.items }

  inside : c.args.index < length parts.items
  inside = is_part parts c.self.invariant c.args.index
      (subst (λ (m : Machine). c.args.index < length m.segments) (sym c.self.view_is) c.requires)

  part_is : c.index.result.now ≡ part_at parts c.args.index
  part_is = c.index.ensures ∙ get_or_default parts.items c.args.index c.index.result.now no_part inside

pub returns-clause-rightward : goal.returns-clause-rightward
returns-clause-rightward c =
    let d = (goal.at.returns-clause-rightward c).After-index in
    subst (λ (m : Machine). c.index.result.now.rightward ≡ length (right_border m c.args.index).rightward)
    c.self.view_is
    (ap (λ (p : Progress). p.rightward) (part_is d)
    ∙ sym (own_right_size (parts d) c.self.invariant c.args.index (inside d)))

pub returns-clause-leftward : goal.returns-clause-leftward
returns-clause-leftward c =
    let d = (goal.at.returns-clause-leftward c).After-index in
    subst (λ (m : Machine). c.index.result.now.leftward ≡ length (left_border m c.args.index).leftward) c.self.view_is
    (ap (λ (p : Progress). p.leftward) (part_is d)
    ∙ sym (own_left_size (parts d) c.self.invariant c.args.index (inside d)))
