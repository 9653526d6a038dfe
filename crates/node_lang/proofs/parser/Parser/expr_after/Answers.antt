use Rattle.std.proofs.Common.{rules}
use Rattle.std.proofs.lemmas.Result.{err_from_is_err_and}
use Rattle.node_program.specs.Term.{term_of}
use Rattle.node_lang.specs.Parsing.{expression_after}
use Rattle.node_lang.specs.Reading.{exactly}
use Rattle.node_lang.proofs.Parsing.{gives_next}
use Rattle.node_lang.proofs.parser.Parser.expr_after.Goals as goal

pub returns-in_err-expect-2 : goal.returns-in_err-expect-2
unfolding expression_after
returns-in_err-expect-2 c =
    let p = err_from_is_err_and c.from_residual-in_err-expect-2.result c.from_residual-in_err-expect-2.ensures.1 in
    rw (p.1, p.2, c.in_ok-expect.ensures.1, ← c.in_ok-expect.ensures.0) (search rules)

pub returns : goal.returns
unfolding expression_after
returns c =
    gives_next (λ _. tt {0}) term_of c.args.self.now c.expect.new.self c.expr.new.self (tt {0}) c.expr.result
    (exactly c.args.first) _ c.in_ok-expect.ensures
    (gives_next (λ _. tt {0}) term_of c.expect.new.self c.expect-2.new.self c.expr.new.self (tt {0}) c.expr.result
    (exactly c.args.second) _ c.in_ok-expect-2.ensures c.expr.ensures)
