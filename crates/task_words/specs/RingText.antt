-- Ring texts: the identifiers of a ring in one word.
use Rattle.std.specs.Prelude.{ℕ, ◌==◌, List, map, All}
use Rattle.std.specs.List.{slice_split}
use Rattle.task_words.specs.Decimal.{IsNumber, number_in}

-- the parts of a text before, between and after its commas (byte 44)
abbrev pub parts_of : List ℕ → List (List ℕ)
parts_of text = slice_split (λ byte. byte == 44) text

-- a ring text: one or more numbers, separated by single commas
abbrev pub IsRingText : List ℕ → Type 0
IsRingText text = All IsNumber (parts_of text)

-- the numbers of a ring text, in order
abbrev pub ring_in : List ℕ → List ℕ
ring_in text = map number_in (parts_of text)
