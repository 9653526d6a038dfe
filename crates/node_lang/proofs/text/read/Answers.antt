use Rattle.std.proofs.Common.{refl, arith}
use Rattle.node_lang.specs.declared.parser.Parser.{Parser}
use Rattle.node_lang.proofs.Judging.{Outcome, outcome}
use Rattle.node_lang.proofs.text.read.Goals as goal

-- what the parser returns of the whole text
whole_outcome : (c : goal.After-whole) → Outcome c.args.text.now c.whole.result
whole_outcome c =
    let fresh : Parser =
    record { alloc = c.args.alloc; text = c.args.text; at = 0; nodes = 0; within = omega arith; few = omega arith } in
    outcome fresh c.whole.new.self c.whole.result refl refl c.requires.short c.requires.ascii c.whole.ensures

pub returns-clause-program : goal.returns-clause-program
returns-clause-program c = (whole_outcome c).program

pub returns-clause-stop : goal.returns-clause-stop
returns-clause-stop c = (whole_outcome c).stop
