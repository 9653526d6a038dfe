-- The lines of a text and the words of a line, and the numbers and literals that words spell.
use Rattle.std.specs.Prelude.{◌==◌, ℕ, ◌-◌, ◌^◌, Bool, true, false, ◌&&◌, List, Option, None, Some, drop, length}
use Rattle.std.specs.Prelude.{nat_le, nat_lt, if◌then◌else◌}
use Rattle.std.specs.Str.{all_ascii_digits}
use Rattle.std.specs.List.{list_all, slice_split}
use Rattle.std.specs.Str.Parse.{digits_value, starts_with_minus}
use Rattle.table_formula.specs.declared.literal.Literal.{Literal}

-- the lines of a text: its parts before, between and after its line feeds (byte 10)
abbrev pub lines_of : List ℕ → List (List ℕ)
lines_of text = slice_split (λ byte. byte == 10) text

-- the words of a line: its parts before, between and after its blanks (byte 32)
abbrev pub words_of : List ℕ → List (List ℕ)
words_of line = slice_split (λ byte. byte == 32) line

-- whether a word is one or more decimal digits, leading zeros allowed, with a value below 2^64
abbrev pub is_number : List ℕ → Bool
is_number word = nat_lt 0 (length word) && (all_ascii_digits word && nat_lt (digits_value 10 word) (2 ^ 64))

-- the number that a word spells
abbrev pub number_in : List ℕ → Option ℕ
number_in word = if is_number word then Some (digits_value 10 word) else None

-- the literal with this number and this sign: the numbers 1 to 2^31 are those of the variables from 0 on
abbrev pub literal_of : Bool → Option ℕ → Option Literal
literal_of is_positive None = None
literal_of is_positive (Some number) =
    if nat_le 1 number && nat_le number (2 ^ 31)
    then Some (record { variable = number - 1; is_positive = is_positive }) else None

-- the literal that a word spells: a number, with a minus (byte 45) in front of it for the negation of the variable
abbrev pub literal_in : List ℕ → Option Literal
literal_in word =
    if starts_with_minus word then literal_of false (number_in (drop 1 word)) else literal_of true (number_in word)

-- whether a word ends a list: it spells 0, by one or more digits 0 (byte 48)
abbrev pub is_end : List ℕ → Bool
is_end word = nat_lt 0 (length word) && list_all (λ byte. byte == 48) word
