use Rattle.std.proofs.Common.{sym, ap, ◌∙◌, arith}
use Rattle.std.specs.Fmt.{decimal}
use Rattle.numerals.proofs.NumberTexts.{padded_word, unpadded_word, value-decimal}
use Rattle.numerals.proofs.decimals.number_of.Goals as goal

pub returns-then-is_padded-clause-none : goal.returns-then-is_padded-clause-none
returns-then-is_padded-clause-none c n small same =
    padded_word c.args.word.now n (sym c.is_padded.ensures ∙ c.if-is_padded.true) small same

pub returns-in_err-decimal_value-clause-none : goal.returns-in_err-decimal_value-clause-none
returns-in_err-decimal_value-clause-none c =
    rw c.from_residual.ensures
    (λ n small same. let is = value-decimal c.args.word.now n small same in c.in_err-decimal_value.ensures
    (is.0, omega (arith, is.1)))

pub returns-in_default-clause-none : goal.returns-in_default-clause-none
returns-in_default-clause-none c n small same =
    let is = value-decimal c.args.word.now n small same in
    c.in_default.ensures (omega (arith, small, is.1, c.in_ok-decimal_value.ensures.1))

pub returns-clause-number : goal.returns-clause-number
returns-clause-number c =
    let is = c.in_ok-decimal_value.ensures in
    unpadded_word c.args.word.now (sym c.is_padded.ensures ∙ c.if-is_padded.false) is.0.0 is.0.1
    ∙ ap decimal (sym (c.in-Ok.ensures.1 ∙ is.1))
