use Rattle.std.proofs.Common.{sym, ◌∙◌}
use Rattle.numerals.proofs.NumbersInTexts.{IfNone_then}
use Rattle.table_text.proofs.IdTexts.{ids_once}
use Rattle.table_text.proofs.lines.entry.Goals as goal

pub returns-clause-none : goal.returns-clause-none
returns-clause-none c = IfNone_then c.field.result c.field.ensures.none (λ none has.
    let is = has.3 in
    let read = c.in_ok-after_ids.ensures in
    let one = ids_once c.numbers_in.new.numbers has.0 c.in_ok-after_ids.after_ids.now _ read.fit is.ids_fit
    (c.numbers_in.auto.numbers ∙ sym is.size) (sym read.numbers ∙ is.spelled) in
    none has.1 has.2 is.channel_fits one.1)
