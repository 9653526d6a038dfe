use Rattle.std.proofs.Common.{List, take, subst, sym}
use Rattle.std.proofs.lemmas.List.{take_more}
use Rattle.fill_core.specs.declared.state.FillEvent.{FillEvent}
use Rattle.fill_core.specs.FillMachine.{Machine, opening, Runs}
use Rattle.fill_core.specs.FillStates.{machine_of}
use Rattle.fill_core.proofs.FillKeeps.{replay_follows, runs_more}
use Rattle.fill_core.proofs.replaying.run.Goals as goal

pub step-requires : goal.step-requires
step-requires c =
    let l = c.loop-event in
    (replay_follows (take l.event-index c.args.events.now) c.args.plan.now c.args.workers (machine_of l.world) c.jobs_have_numbers.ensures.at c.requires l.invariant).consistent

pub loop-event-preserved : goal.loop-event-preserved
loop-event-preserved c =
    let l = c.loop-event in
    let start : Machine = opening c.args.plan.now c.args.workers in
    let after : Machine = machine_of c.step.new.self in
    let more = take_more c.args.events.now l.event-index _ c.loop-event-test.true in
    subst (λ (es : List FillEvent). Runs start es after) (sym more)
    (runs_more (take l.event-index c.args.events.now) _ start (machine_of l.world) after l.invariant c.in_ok-step.ensures)

pub returns-clause-follows : goal.returns-clause-follows
returns-clause-follows c =
    let l = c.loop-event in
    replay_follows (take l.event-index c.args.events.now) c.args.plan.now c.args.workers
    (machine_of l.world) c.jobs_have_numbers.ensures.at c.requires l.invariant
