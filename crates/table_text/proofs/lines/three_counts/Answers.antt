use Rattle.std.proofs.Common.{sym, ◌∙◌, arith}
use Rattle.std.specs.Prelude.{codes}
use Rattle.numerals.proofs.NumbersInTexts.{field_once}
use Rattle.table_text.proofs.lines.three_counts.Goals as goal

pub returns-in_err-ids-clause-none : goal.returns-in_err-ids-clause-none
returns-in_err-ids-clause-none c = rw c.from_residual-in_err-ids.ensures (λ rounds ids channels rest r i k same.
    let read = c.in_ok-rounds.ensures in
    let first =
    field_once (codes "rounds ") 32 c.in_ok-rounds.rounds rounds c.in_ok-rounds.rest.now _ (omega arith) read.fits r
    (sym read.field ∙ same) in
    c.in_err-ids.ensures.none ids _ i first.1)

pub returns-in_err-channels-clause-none : goal.returns-in_err-channels-clause-none
returns-in_err-channels-clause-none c =
    rw c.from_residual-in_err-channels.ensures (λ rounds ids channels rest r i k same.
    let read = c.in_ok-rounds.ensures in
    let more = c.in_ok-ids.ensures in
    let first =
    field_once (codes "rounds ") 32 c.in_ok-rounds.rounds rounds c.in_ok-rounds.rest.now _ (omega arith) read.fits r
    (sym read.field ∙ same) in
    let second = field_once (codes "ids ") 32 c.in_ok-ids.ids ids c.in_ok-ids.rest.now _ (omega arith) more.fits i
    (sym more.field ∙ first.1) in
    c.in_err-channels.ensures.none channels rest k second.1)
