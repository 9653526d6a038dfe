use Rattle.std.proofs.Common.{◌≡◌, ◌∙◌, ap, subst, arith, inr, refl, map, take, All}
use Rattle.std.proofs.lemmas.List.{take_all}
use Rattle.std.proofs.lemmas.List.Elements.{All-more}
use Rattle.task_words.specs.Decimal.{IsNumber, number_in}
use Rattle.task_words.proofs.Parts.{values_more}
use Rattle.task_words.proofs.ring_text.numbers.Goals as goal

-- One more part was read.
pub loop-part-preserved : goal.loop-part-preserved
loop-part-preserved c =
    let read = c.in-Some.ensures in
    record {
      each = All-more (λ part. IsNumber part.now) c.args.parts.now c.loop-part.part-index _ c.loop-part-test.true c.loop-part.invariant.each read.0;
      values = values_more c.args.parts.now c.loop-part.part-index _ _ _ _ c.loop-part-test.true c.loop-part.invariant.values read.1 c.in_ok-push.ensures.items;
    }

-- A part that was not read is no number.
pub returns-in_default-clause-refused : goal.returns-in_default-clause-refused
returns-in_default-clause-refused c =
    inr (refl, λ each. c.in_default.ensures (each c.loop-part.part-index _ c.loop-part-test.true))

-- All parts were read.
pub returns-clause-numbers : goal.returns-clause-numbers
returns-clause-numbers c =
    let whole : take c.loop-part.part-index c.args.parts.now ≡ c.args.parts.now =
    take_all c.loop-part.part-index c.args.parts.now (omega (arith, c.loop-part-test.false)) in (
      subst (All (λ part. IsNumber part.now)) whole c.loop-part.invariant.each,
      c.loop-part.invariant.values
          ∙ ap (map (λ part. number_in part.now)) whole,
    )

-- There are no values of parts that were not all read.
pub returns-in_default-clause-numbers : goal.returns-in_default-clause-numbers
returns-in_default-clause-numbers c = tt
