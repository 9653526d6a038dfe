use Rattle.node_program.specs.Term.{term_of}
use Rattle.node_lang.specs.Reading.{assign}
use Rattle.node_lang.proofs.Parsing.{HasRead}
use Rattle.node_lang.proofs.parser.Parser.assigns.Given as goal

abbrev pub invariant-registers : goal.invariant-registers
invariant-registers l = HasRead term_of assign l.registers l.register l.expressions.items l.initial.self l.self
