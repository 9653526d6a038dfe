-- Numbers in decimal, in the words of the program and in a ring text.
use Rattle.std.specs.Prelude.{ℕ, ◌<◌, ◌^◌, List}
use Rattle.std.specs.Str.Parse.{IsNumeral, digits_value}

-- one or more decimal digits, leading zeros allowed, with a value up to 4294967295
abbrev pub IsNumber : List ℕ → Type 0
IsNumber text = IsNumeral 10 text × (digits_value 10 text < 2 ^ 32)

-- the value of decimal digits
abbrev pub number_in : List ℕ → ℕ
number_in text = digits_value 10 text
