use Rattle.std.proofs.Common.{map, ap}
use Rattle.node_program.specs.Term.{program_tree, term_of}
use Rattle.node_program.proofs.Small.{start_small}
use Rattle.node_program.proofs.program.Program.start.Goals as goal

pub returns-clause-small : goal.returns-clause-small
returns-clause-small c =
    let program = c.self.inside in
    start_small (program_tree program.channels program.start.items program.steps.items program.finish) c.deref.result.now c.self.invariant
    (ap (map term_of) c.deref.ensures.value)
