-- An operation is read by the method for its number of operands.
use Rattle.std.proofs.Common.{ℕ, ap, refl, rules}
use Rattle.std.proofs.lemmas.Result.{err_from_is_err_and}
use Rattle.node_lang.specs.declared.token.Token.{Token}
use Rattle.node_lang.specs.Reading.{after, one_of, operand, three_of, two_of}
use Rattle.node_lang.proofs.Parsing.{gives_operation, go_on_assoc}
use Rattle.node_lang.proofs.parser.Parser.+expr.Goals as goal

pub expr-returns-in-One : goal.expr-returns-in-One
unfolding one_of
expr-returns-in-One t c =
    let first : Token × ℕ = (c.in_ok-token.token, c.in_ok-token.offset) in
    gives_operation c.args.self.now c.next.new.self c.one.new.self c.args.levels first c.one.result _ _ _
    c.in_ok-token.ensures.reads (ap (after (operand c.args.levels)) c.in-One.is) (λ n l. refl) c.one.ensures

pub expr-returns-in-Two : goal.expr-returns-in-Two
unfolding two_of
expr-returns-in-Two t c =
    let first : Token × ℕ = (c.in_ok-token.token, c.in_ok-token.offset) in
    gives_operation c.args.self.now c.next.new.self c.two.new.self c.args.levels first c.two.result _ _ _
    c.in_ok-token.ensures.reads (ap (after (operand c.args.levels)) c.in-Two.is) (λ n l. simp go_on_assoc) c.two.ensures

pub expr-returns-in-If : goal.expr-returns-in-If
unfolding three_of
expr-returns-in-If t c =
    let first : Token × ℕ = (c.in_ok-token.token, c.in_ok-token.offset) in
    gives_operation c.args.self.now c.next.new.self c.choose.new.self c.args.levels first c.choose.result _ _ _
    c.in_ok-token.ensures.reads (ap (after (operand c.args.levels)) c.in-If.is) (λ n l. simp go_on_assoc)
    c.choose.ensures

-- The fault is one of the last two operands.
pub choose-returns-in_err-a : goal.choose-returns-in_err-a
choose-returns-in_err-a t c =
    let p = err_from_is_err_and c.from_residual-in_err-a.result c.from_residual-in_err-a.ensures.1 in
    rw (
      p.1,
      p.2,
      c.in_ok-below.ensures.below,
      c.in_ok-below.ensures.reads.1,
      ← c.in_ok-below.ensures.reads.0,
      c.in_ok-c.ensures.1,
      ← c.in_ok-c.ensures.0,
    ) (search rules)
