-- Notes with the location of the cause in a text.
use Rattle.std.specs.Prelude.{ℕ, ◌++◌, List, [], ◌∷◌, codes, Option, Some, None}
use Rattle.source_text.specs.Heads.{note_head}
use Rattle.source_text.specs.Shown.{marked_line}

-- a cause with its location, or without one
abbrev pub located_note : List ℕ → List ℕ → Option ℕ → List ℕ
located_note text cause None = codes "nbhd: " ++ (cause ++ 10 ∷ [])
located_note text cause (Some offset) = note_head text offset ++ (cause ++ 10 ∷ marked_line text offset)
