-- The numbers that words spell.
use Rattle.std.proofs.Common.{◌≡◌, ℕ, ◌^◌, ◌<◌, true, ◌&&◌, List, Option, None, Some, cond, length, ltb, sym, ap, ◌∙◌}
use Rattle.std.specs.Option.{SomeIff}
use Rattle.std.specs.Str.{all_ascii_digits}
use Rattle.std.specs.Str.Parse.{IsNumeral, digits_value}
use Rattle.std.proofs.lemmas.Bool.{and_parts, false_from_ne_true, ltb-true, lt-ltb}
use Rattle.std.proofs.lemmas.Str.Parse.{IsNumeralModel, numerals_by_value, tells_all_ascii_digits}
use Rattle.table_formula.specs.Words.{is_number, number_in}

model : IsNumeralModel (λ ds. all_ascii_digits ds ≡ true) (digits_value 10)
model = numerals_by_value (λ ds. all_ascii_digits ds ≡ true) tells_all_ascii_digits

-- the value of digits is the number that they spell
pub value_is_number : (word : List ℕ) (r : Option ℕ)
    → SomeIff r (IsNumeral 10 word × (digits_value 10 word < 2 ^ 64)) (digits_value 10 word) → r ≡ number_in word
value_is_number word None none =
    sym (ap (λ b. cond b (Some (digits_value 10 word)) None) (false_from_ne_true (is_number word) (λ number.
    let parts = and_parts (ltb 0 (length word)) (all_ascii_digits word && ltb (digits_value 10 word) (2 ^ 64)) number in
    let more = and_parts (all_ascii_digits word) (ltb (digits_value 10 word) (2 ^ 64)) parts.1 in
    none ((ltb-true 0 (length word) parts.0, model.to word more.0), ltb-true (digits_value 10 word) (2 ^ 64) more.1))))
value_is_number word (Some x) is =
    let low : ltb 0 (length word) ≡ true = lt-ltb 0 (length word) is.0.0.0 in
    let high : ltb (digits_value 10 word) (2 ^ 64) ≡ true = lt-ltb (digits_value 10 word) (2 ^ 64) is.0.1 in
    let number : is_number word ≡ true = λ i. low i && (model.from word is.0.0.1 i && high i) in
    ap Some is.1 ∙ ap (λ b. cond b (Some (digits_value 10 word)) None) (sym number)
