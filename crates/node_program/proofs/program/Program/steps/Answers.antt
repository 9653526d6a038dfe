use Rattle.std.proofs.Common.{map, ap}
use Rattle.node_program.specs.Term.{program_tree, step_of}
use Rattle.node_program.proofs.Small.{steps_small}
use Rattle.node_program.proofs.program.Program.steps.Goals as goal

pub returns-clause-small : goal.returns-clause-small
returns-clause-small c =
    let program = c.self.inside in
    steps_small (program_tree program.channels program.start.items program.steps.items program.finish) c.deref.result.now c.self.invariant
    (ap (map step_of) c.deref.ensures.value)
