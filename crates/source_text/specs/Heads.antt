-- The start of a note on a location in a text.
use Rattle.std.specs.Prelude.{ℕ, ◌++◌, List, codes}
use Rattle.std.specs.Fmt.{decimal}
use Rattle.source_text.specs.Lines.{line_number, column}

-- `nbhd`, and the line and the column of the byte at this offset
abbrev pub note_head : List ℕ → ℕ → List ℕ
note_head text offset = codes "nbhd: line "
    ++ (decimal (line_number text offset) ++ (codes ", column " ++ (decimal (column text offset) ++ codes ": ")))
