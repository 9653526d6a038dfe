use Rattle.std.proofs.Common.{◌∷◌, ◌++◌, sym, ◌∙◌}
use Rattle.std.specs.Fmt.{decimal}
use Rattle.std.proofs.lemmas.List.{append_cancel_left}
use Rattle.numerals.proofs.Options.{IfNone_then}
use Rattle.numerals.proofs.fields.field.Goals as goal

pub returns-clause-none : goal.returns-clause-none
returns-clause-none c = IfNone_then c.number_before.result c.number_before.ensures.none (λ none number rest small same.
    none number rest small (append_cancel_left c.args.name.now c.in_ok-number.number.now (decimal number ++ c.args.end ∷ rest)
    (sym c.in_ok-number.ensures ∙ same)))
