-- The bytes, the parts and the words of a text.
use Rattle.std.specs.Prelude.{ℕ, ◌==◌, Bool, false, not, ◌||◌, List, [], ◌∷◌, bytes_eq}
use Rattle.std.specs.List.{list_any, slice_split, starts_with, ends_with}

-- whether a byte is among these
abbrev pub is_in : List ℕ → ℕ → Bool
is_in bytes byte = list_any (λ other. other == byte) bytes

-- whether a byte is another one than this
abbrev pub is_other : ℕ → ℕ → Bool
is_other end byte = not (byte == end)

abbrev pub begins : List ℕ → List ℕ → Bool
begins text part = starts_with (λ a b. a == b) text part

abbrev pub ends : List ℕ → List ℕ → Bool
ends text part = ends_with (λ a b. a == b) text part

-- whether the part stands somewhere in the text
abbrev pub contains_part : List ℕ → List ℕ → Bool
contains_part [] part = false
contains_part (byte ∷ text) part = begins (byte ∷ text) part || contains_part text part

-- whether a word is one of those in a text, which are separated by single blanks
abbrev pub is_one_of : List ℕ → List ℕ → Bool
is_one_of words word = list_any (λ other. bytes_eq other word) (slice_split (λ byte. byte == 32) words)
