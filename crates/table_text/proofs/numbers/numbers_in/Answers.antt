use Rattle.std.proofs.Common.{take, sym, ap, subst, ◌∙◌, arith}
use Rattle.std.specs.Prelude.{All}
use Rattle.std.proofs.lemmas.List.{take_more_set, length-take-le, length-set}
use Rattle.std.proofs.lemmas.List.Elements.{All-push}
use Rattle.table_text.specs.TableText.{ids_then}
use Rattle.table_text.proofs.IdTexts.{Fits32, ids_more, next_id}
use Rattle.table_text.proofs.numbers.numbers_in.Goals as goal

pub returns-in_err-value-clause-none : goal.returns-in_err-value-clause-none
returns-in_err-value-clause-none c = rw c.from_residual.ensures (λ ids rest size fit same.
    let so_far = take c.numbers.number-index c.numbers.numbers in
    let front = length-take-le c.numbers.number-index c.numbers.numbers (omega arith) in
    let next = next_id so_far ids _ rest c.numbers.invariant.fit fit
    (omega (arith, front, size, c.numbers.invariant.size)) (sym c.numbers.invariant.read ∙ same) in
    c.in_err-value.ensures.none next.0 next.1 next.2 next.3)

pub numbers-preserved : goal.numbers-preserved
numbers-preserved c =
    let so_far = take c.numbers.number-index c.numbers.numbers in
    let grown = take_more_set c.numbers.numbers c.numbers.number-index c.in_ok-value.value
    (omega (arith, c.numbers-test.true, c.numbers.invariant.size)) in
    record {
      size = length-set c.numbers.numbers c.numbers.number-index c.in_ok-value.value ∙ c.numbers.invariant.size;
      fit =
          subst (All Fits32) (sym grown)
          (All-push Fits32 so_far c.in_ok-value.value c.numbers.invariant.fit c.in_ok-value.ensures.fits);
      read = c.numbers.invariant.read ∙ ap (ids_then so_far) c.in_ok-value.ensures.number
          ∙ sym (ids_more so_far c.in_ok-value.value c.in_ok-value.after.now)
          ∙ ap (λ l. ids_then l c.in_ok-value.after.now) (sym grown);
    }
