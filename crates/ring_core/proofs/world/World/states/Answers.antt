use Rattle.std.proofs.Common.{◌≡◌, ◌*◌, length, subst, sym, ◌∙◌, ap}
use Rattle.border_exchange.specs.Segments.{RingSegment, places_of}
use Rattle.ring_core.proofs.Readings.{rows_are, places_are}
use Rattle.ring_core.proofs.world.World.states.Goals as goal

pub returns-clause-value : goal.returns-clause-value
returns-clause-value c =
    rows_are c.args.self.now c.args.segment c.part.result.now.segment c.states.result.now c.promises.ensures.states
    c.requires c.part.ensures.segment c.states.ensures.value

pub returns-clause-size : goal.returns-clause-size
returns-clause-size c =
    subst (λ (a : RingSegment). length c.states.result.now ≡ places_of a * length a.plan.program.start)
    c.part.ensures.segment c.states.ensures.size
    ∙ ap (λ n. n * length c.args.self.now.plan.program.start)
    (sym (places_are c.args.self.now c.args.segment c.promises.ensures.states c.requires))
