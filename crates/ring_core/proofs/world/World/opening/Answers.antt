use Rattle.std.proofs.Common.{List, subst, sym, ◌∙◌, ap}
use Rattle.ring_core.specs.Progress.{Progress, FitTogether, machine_of}
use Rattle.ring_core.proofs.Opening.{opening_fits, opening_machine}
use Rattle.ring_core.proofs.world.World.opening.Goals as goal

pub invariant_of-result : goal.invariant_of-result
invariant_of-result c =
    let plan = c.args.plan.now in
    let ring = c.args.ring.now in
    subst (λ (items : List Progress). FitTogether record { plan = plan; ring = ring; items = items })
    (sym c.in_ok-parts.ensures)
    (opening_fits plan ring c.args.segments c.requires.some c.requires.cut.few)

pub returns : goal.returns
returns c =
    let plan = c.args.plan.now in
    let ring = c.args.ring.now in
    ap (λ (items : List Progress). machine_of record { plan = plan; ring = ring; items = items }) c.in_ok-parts.ensures
    ∙ opening_machine plan ring c.args.segments c.requires.some
