use Rattle.std.proofs.Common.{◌≡◌, ℕ, ◌<◌, List, Option, None, Some, true, false, length, map, get_or, sym, ap, ◌∙◌}
use Rattle.std.proofs.Common.{subst, inl, inr, arith, Bor}
use Rattle.std.specs.Prelude.{slice_get}
use Rattle.std.proofs.lemmas.Bool.{cases_order}
use Rattle.std.proofs.lemmas.List.{length-map}
use Rattle.std.proofs.lemmas.Option.{slice_get-get_or, slice_get-map}
use Rattle.std.specs.Option.{SomeIff, is_some, option_map}
use Rattle.task_words.specs.Decimal.{IsNumber}
use Rattle.task_words.proofs.ring_tips.first_bad.Goals as goal

abbrev text_of : Bor (List ℕ) → List ℕ
text_of part = part.now

-- a part of the texts is the text of a part
part_is : (parts : List (Bor (List ℕ))) (k i : ℕ) (d : Bor (List ℕ)) (other : List ℕ) → k ≡ i → i < length parts
    → slice_get (map text_of parts) k ≡ Some other →
    text_of (get_or parts i d) ≡ other
part_is parts k i d other same h e =
    let found : Some (text_of (get_or parts i d)) ≡ Some other =
    sym (ap (option_map text_of) (slice_get-get_or parts i d h)) ∙ sym (slice_get-map text_of parts i)
    ∙ ap (slice_get (map text_of parts)) (sym same) ∙ e in cc

-- what was read as a number is one
number_is : (r : Option ℕ) (P : Type 0) (v : ℕ) → SomeIff r P v → is_some r ≡ true → P
number_is None P v none some = absurd (falsity some)
  where
    falsity : false ≡ true → ⊥
    falsity bad = cc
number_is (Some n) P v both some = both.0

pub parts-preserved : goal.parts-preserved
parts-preserved c = λ k other h e. elim (cases_order k c.parts.index) [
  | inl same ↦ subst IsNumber (part_is c.args.parts.now k c.parts.index _ other same c.parts-test.true e)
      (number_is c.number_of.result _ _ c.number_of.ensures c.if-is_none.ensures)
  | inr (inl less) ↦ c.parts.invariant k other less e
  | inr (inr more) ↦ absurd (omega (arith, h, more))
]

-- All parts were numbers.
pub returns-clause-none : goal.returns-clause-none
returns-clause-none c = λ k d h.
    let short = rw (length-map c.args.parts.now text_of) at h in
    c.parts.invariant k _ (omega (arith, short, c.parts-test.false, c.parts.auto))
    (slice_get-get_or (map text_of c.args.parts.now) k d h)
