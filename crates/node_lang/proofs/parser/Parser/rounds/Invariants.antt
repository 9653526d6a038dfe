use Rattle.node_program.specs.Term.{step_of}
use Rattle.node_lang.specs.Reading.{round}
use Rattle.node_lang.proofs.Parsing.{HasRead}
use Rattle.node_lang.proofs.parser.Parser.rounds.Given as goal

abbrev pub invariant-rounds : goal.invariant-rounds
invariant-rounds l = HasRead step_of (λ _. round l.registers) l.count l.index l.steps.items l.initial.self l.self
