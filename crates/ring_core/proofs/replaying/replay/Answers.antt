use Rattle.std.proofs.Common.{List, get_or, take, subst, sym, ◌∙◌}
use Rattle.std.proofs.lemmas.List.{take_more}
use Rattle.std.proofs.lemmas.List.FromFn.{length-map-range_with_len}
use Rattle.ring_core.specs.declared.event.RingEvent.{RingEvent}
use Rattle.ring_core.specs.declared.event.RingEvent.TheVariants.{SendRight}
use Rattle.ring_core.specs.Machine.{Runs, opening, opening_segment}
use Rattle.ring_core.proofs.Runs.{run_more, run_same}
use Rattle.ring_core.proofs.replaying.replay.Goals as goal

pub loop-event-preserved : goal.loop-event-preserved
loop-event-preserved c =
    let first = opening c.args.plan.now c.args.ring.now c.args.segments in
    let events = c.args.events.now in
    let k = c.loop-event.event-index in
    let event : RingEvent = get_or events k (SendRight 0) in
    let more = run_more first c.loop-event.world c.step.new.self (take k events) event c.loop-event.invariant
    c.in_ok-step.ensures in
    subst (λ (done : List RingEvent). Runs first done c.step.new.self)
    (sym (take_more events k (SendRight 0) c.loop-event-test.true)) more

pub returns-clause-machine : goal.returns-clause-machine
returns-clause-machine c =
    let g = c.args.segments in
    let same = run_same _ _ _ c.loop-event.invariant in (
      same.plan,
      same.ring,
      same.segments
          ∙ length-map-range_with_len (opening_segment c.args.plan.now c.args.ring.now g) 0 g,
    )
