-- The parts of a text that are left. No public contract cites this file.
use Rattle.std.specs.Prelude.{◌==◌, ℕ, List, [], Option, None, Some}
use Rattle.std.specs.Borrow.{Bor}
use Rattle.std.specs.List.{slice_split}
use Rattle.table_formula.specs.declared.refutation.split.Split.{Split}

-- the parts before, between and after the bytes of the text that are the separator
abbrev pub parts_of : ℕ → List ℕ → List (List ℕ)
parts_of separator text = slice_split (λ byte. byte == separator) text

-- the parts of the text that is left, if one is left
abbrev pub parts_in : ℕ → Option (Bor (List ℕ)) → List (List ℕ)
parts_in separator None = []
parts_in separator (Some rest) = parts_of separator rest.now

abbrev pub parts_left : Split → List (List ℕ)
parts_left parts = parts_in parts.separator parts.rest
