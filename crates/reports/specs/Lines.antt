-- Lines of the report.
use Rattle.std.specs.Prelude.{ℕ, List, [], ◌∷◌, ◌++◌, ◌-◌, length, replicate, codes}
use Rattle.std.specs.Fmt.{decimal}
use Rattle.source_text.specs.Lists.{joined}

-- pieces of text, one after another, and a line feed (byte 10)
abbrev pub line : List (List ℕ) → List ℕ
line [] = 10 ∷ []
line (piece ∷ pieces) = piece ++ line pieces

-- numbers in decimal without leading zeros, separated by single blanks (byte 32)
abbrev pub numbers_text : List ℕ → List ℕ
numbers_text = joined (codes " ")

-- a number in decimal, after blanks that extend it to 4 places
abbrev pub right_aligned : ℕ → List ℕ
right_aligned number = replicate (4 - length (decimal number)) 32 ++ decimal number
