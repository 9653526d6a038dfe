use Rattle.std.proofs.Common.{◌≡◌, ◌++◌, drop, string_bytes}
use Rattle.numerals.specs.Numerals.{after_blanks, form_of}
use Rattle.numerals.proofs.rows.write_row.Given as goal

-- the numbers that are left complete the row
abbrev pub invariant-numbers : goal.invariant-numbers
invariant-numbers l = record {
  form : l.form ≡ form_of l.fn.base l.numbers;
  text : string_bytes l.text ++ after_blanks l.form (drop l.number-index l.numbers)
      ≡ string_bytes l.initial.text ++ after_blanks l.form l.numbers;
}
