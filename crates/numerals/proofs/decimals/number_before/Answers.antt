use Rattle.std.proofs.Common.{sym, subst, ◌∙◌}
use Rattle.std.specs.Fmt.{decimal}
use Rattle.numerals.specs.Bytes.{Lacks}
use Rattle.numerals.proofs.NumberTexts.{no_cut, one_cut, lacks_decimal}
use Rattle.numerals.proofs.decimals.number_before.Goals as goal

pub returns-in_err-word-clause-none : goal.returns-in_err-word-clause-none
returns-in_err-word-clause-none c =
    rw c.from_residual.ensures
    (λ n rest small same. no_cut c.args.end (decimal n) rest
    (subst (Lacks c.args.end) same c.in_err-word.ensures.none))

pub returns-in_err-number-clause-none : goal.returns-in_err-number-clause-none
returns-in_err-number-clause-none c =
    let cut = c.in_ok-word.ensures in
    rw c.from_residual-in_err-number.ensures (λ n rest small same.
    let one = one_cut c.args.end c.in_ok-word.word.now (decimal n) c.in_ok-word.rest.now rest cut.first
    (lacks_decimal c.args.end n c.requires small) (sym cut.cut ∙ same) in
    c.in_err-number.ensures.none n small one.0)
