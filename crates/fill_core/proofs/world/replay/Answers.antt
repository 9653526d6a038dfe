use Rattle.fill_core.specs.FillStates.{machine_of}
use Rattle.fill_core.proofs.FillKeeps.{as_many, filled_when_stopped}
use Rattle.fill_core.proofs.world.replay.Goals as goal

pub returns-clause-machine : goal.returns-clause-machine
returns-clause-machine c =
    let follows = c.in_ok-world.ensures.follows in
    (follows.plan, as_many c.args.plan.now c.args.workers (machine_of c.in_ok-world.world) follows)

pub returns-clause-filled : goal.returns-clause-filled
returns-clause-filled c = filled_when_stopped (machine_of c.in_ok-world.world) c.in_ok-world.ensures.follows.consistent
