-- A line of a text with a mark below a byte, in a note.
use Rattle.std.specs.Prelude.{ℕ, ◌-◌, ◌/◌, ◌%◌, ◌==◌, false, ◌&&◌, ◌||◌, ◌++◌, nat_lt, nat_le, List, [], ◌∷◌, length}
use Rattle.std.specs.Prelude.{take, drop, codes, replicate, if◌then◌else◌}
use Rattle.std.specs.List.{flat_map}
use Rattle.std.specs.Fmt.{digit_glyph}
use Rattle.source_text.specs.declared.shown.TheConstants.{SHOWN_BYTES}
use Rattle.source_text.specs.Lines.{line_before, line_from}

-- `\x` and the two hexadecimal digits of a byte
abbrev pub escaped : ℕ → List ℕ
escaped b = 92 ∷ 120 ∷ digit_glyph false (b / 16) ∷ digit_glyph false (b % 16) ∷ []

-- A byte as it is shown: a tab (9) or a carriage return (13) as a blank, a printable ASCII byte unchanged, and any
-- other as `\x` and two hexadecimal digits.
abbrev pub shown_byte : ℕ → List ℕ
shown_byte b = if (b == 9) || (b == 13) then 32 ∷ []
    else if nat_le 32 b && nat_lt b 127 then b ∷ []
    else escaped b

abbrev pub shown : List ℕ → List ℕ
shown bytes = flat_map shown_byte bytes

-- A byte as it is seen: a printable ASCII byte unchanged, and any other, also a tab and a carriage return, as `\x` and
-- two hexadecimal digits.
abbrev pub seen_byte : ℕ → List ℕ
seen_byte b = if nat_le 32 b && nat_lt b 127 then b ∷ [] else escaped b

abbrev pub escaped_bytes : List ℕ → List ℕ
escaped_bytes bytes = flat_map seen_byte bytes

-- the last `count` bytes of a list, or all if there are fewer
abbrev pub last_bytes : ℕ → List ℕ → List ℕ
last_bytes count bytes = drop (length bytes - count) bytes

-- the bytes shown before an offset on its line, and from it on: at most SHOWN_BYTES of the line each
abbrev pub shown_before : List ℕ → ℕ → List ℕ
shown_before text offset = shown (last_bytes SHOWN_BYTES (line_before text offset))

abbrev pub shown_from : List ℕ → ℕ → List ℕ
shown_from text offset = shown (take SHOWN_BYTES (line_from text offset))

-- the line of an offset, and a mark below it; each after two blanks
unfoldable pub marked_line : List ℕ → ℕ → List ℕ
marked_line text offset =
    codes "  " ++ (shown_before text offset ++ (shown_from text offset
    ++ (10 ∷ codes "  " ++ (replicate (length (shown_before text offset)) 32 ++ codes "^\n"))))
