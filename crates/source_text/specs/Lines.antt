-- The location of a byte in a text: its line and its column, and the line around it.
use Rattle.std.specs.Prelude.{ℕ, zero, suc, ◌+◌, ◌==◌, Bool, not, List, length, take, drop, count_by}
use Rattle.std.specs.List.{before_first, after_first, after_last}

-- a line feed
abbrev pub is_feed : ℕ → Bool
is_feed b = b == 10

-- any other byte
abbrev pub in_line : ℕ → Bool
in_line b = not (is_feed b)

-- the line of the byte at this offset: one more than the line feeds before it
abbrev pub line_number : List ℕ → ℕ → ℕ
line_number text offset = count_by is_feed (take offset text) + 1

-- the bytes before it on its line: those after the last line feed before it
abbrev pub line_before : List ℕ → ℕ → List ℕ
line_before text offset = after_last is_feed (take offset text)

-- its column: one more than the bytes on its line before it
abbrev pub column : List ℕ → ℕ → ℕ
column text offset = length (line_before text offset) + 1

-- the bytes from it on that are on its line: those before the next line feed
abbrev pub line_from : List ℕ → ℕ → List ℕ
line_from text offset = before_first is_feed (drop offset text)

-- the text after this number of lines; after the last line it is empty
abbrev pub after_lines : ℕ → List ℕ → List ℕ
after_lines zero text = text
after_lines (suc n) text = after_first is_feed (after_lines n text)
