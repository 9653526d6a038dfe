-- What a text is that is given instead of another one, told from its first line. This is advice: no report and no
-- status depends on it, and the definitions follow the code.
use Rattle.std.specs.Prelude.{ℕ, zero, suc, ◌-◌, ◌==◌, nat_le, Bool, true, false, not, ◌&&◌, ◌||◌, List, [], ◌∷◌}
use Rattle.std.specs.Prelude.{map, length, take, drop, Option, None, Some, option_map, codes, bytes_eq, if◌then◌else◌}
use Rattle.std.specs.Char.{is_ascii_whitespace}
use Rattle.std.specs.List.{list_all, list_any, prefix_len, before_first, after_first, find, slice_split}
use Rattle.std.specs.Option.{option_or}
use Rattle.source_text.specs.declared.first_lines.TheConstants.{BEGINNINGS, ENDINGS, FIRST_PLACE}
use Rattle.source_text.specs.declared.kinds.TextKind.{TextKind}
use Rattle.source_text.specs.declared.kinds.TextKind.TheVariants as kind
use Rattle.source_text.specs.ByteSets.{is_in, begins, ends, contains_part}
use Rattle.source_text.specs.Lines.{is_feed}

abbrev pub first_line : List ℕ → List ℕ
first_line text = before_first is_feed text

-- a text without the blanks at its start
abbrev pub trimmed : List ℕ → List ℕ
trimmed text = drop (prefix_len is_ascii_whitespace text) text

-- whether nothing but blanks stands on a line, or a comment of a program or of a solver's file
abbrev pub is_skipped : List ℕ → Bool
is_skipped line = (length (trimmed line) == 0) || begins (trimmed line) (codes "#")
    || bytes_eq (trimmed line) (codes "c") || begins (trimmed line) (codes "c ")

-- the first line of a text that is neither
abbrev pub first_told : List ℕ → Option (List ℕ)
first_told text = find (λ line. not (is_skipped line)) (slice_split is_feed text)

-- whether a text begins with two pairs of a byte and 0, in this order or the other one, as ASCII in UTF-16 does
abbrev pub is_wide : List ℕ → Bool
is_wide (suc a ∷ zero ∷ suc b ∷ zero ∷ rest) = true
is_wide (zero ∷ suc a ∷ zero ∷ suc b ∷ rest) = true
is_wide text = false

-- whether a line is of numbers, of which the last one is 0, and no 0 has a minus sign
abbrev pub is_list : List ℕ → Bool
is_list line = list_all (is_in (codes "0123456789 -cdim")) line && (ends line (codes " 0") || bytes_eq line (codes "0"))
    && not (contains_part line (codes " -0"))

-- a digit from 1 to 9 at the start
abbrev pub begins_with_number : List ℕ → Bool
begins_with_number [] = false
begins_with_number (b ∷ rest) = nat_le 49 b && nat_le b 57

-- whether a number 0 stands before the last one of a line
abbrev pub has_zero_within : List ℕ → Bool
has_zero_within line = begins line (codes "0 ") || contains_part line (codes " 0 ")

-- The kind of a list of numbers. A step of a refutation has two lists, each with 0 at its end, behind its number; a
-- deletion has `d` behind its number. A line of a proof has one list, and `d` before it or not: without a negative
-- number it may be another list.
abbrev pub list_kind : List ℕ → Option TextKind
list_kind line =
    if begins_with_number line && (has_zero_within line || list_any (λ b. b == 100) line) then Some kind.Refutation
    else if not (has_zero_within line) && list_any (is_in (codes "-d")) line then Some kind.Proof
    else None

-- a line without a carriage return at its end
abbrev pub without_return : List ℕ → List ℕ
without_return line = if ends line (13 ∷ []) then take (length line - 1) line else line

-- the kind of a text with this line, if the line is of numbers
unfoldable pub line_kind : List ℕ → Option TextKind
line_kind line = if is_list (without_return line) then list_kind (without_return line) else None

-- whether a whole text is one word that ends as names of files do, with or without the end of its line
unfoldable pub is_file_name : List ℕ → Bool
is_file_name text = (length (after_first is_feed text) == 0) && not (list_any (is_in (codes " \t:")) (first_line text))
    && list_any (λ ending. ends (first_line text) ending.now) ENDINGS

-- what stands in a table beside the first beginning that a line has
abbrev pub by_beginning : List (List ℕ × TextKind) → List ℕ → Option TextKind
by_beginning table line = option_map (λ row. row.1) (find (λ row. begins line row.0) table)

-- the kind of a text whose first line has one of the beginnings
unfoldable pub kind_by_beginning : List ℕ → Option TextKind
kind_by_beginning line = by_beginning (map (λ row. (row.0.now, row.1)) BEGINNINGS) line

-- whether a line is one of a program that begins with `rounds`; that of a table goes on with the number of identifiers
abbrev pub is_of_program : List ℕ → Bool
is_of_program line = begins line (codes "rounds") && not (contains_part line (codes " ids "))

-- the kind of a text by its first line that is neither blank nor a comment
unfoldable pub kind_of_line : List ℕ → Option TextKind
kind_of_line line = if is_of_program line then Some kind.Program
    else option_or (kind_by_beginning line) (line_kind line)

-- the kind of the first line that says something, if there is one
abbrev pub kind_told : Option (List ℕ) → Option TextKind
kind_told None = None
kind_told (Some line) = kind_of_line (trimmed line)

-- what a text looks like
unfoldable pub text_kind : List ℕ → Option TextKind
text_kind text = if is_wide text then Some kind.Wide
    else if begins text FIRST_PLACE.now then Some kind.Report
    else if is_file_name text then Some kind.FileName else kind_told (first_told text)
