-- How a text in DIMACS is read: which formula it states. In the text variables are numbered from 1. A text with
-- more comments than one in its first line is not read here.
use Rattle.std.specs.Prelude.{◌≡◌, ◌==◌, ℕ, ◌-◌, Bool, true, false, ◌&&◌, ◌||◌, List, [], ◌∷◌, Option, None, Some}
use Rattle.std.specs.Prelude.{option_map, codes, drop, filter, length, map, nat_le, nat_lt, take, if◌then◌else◌}
use Rattle.std.specs.List.{after_first, before_first, slice_split}
use Rattle.std.specs.Str.{all_ascii_digits, bytes_eq}
use Rattle.std.specs.Str.Parse.{digits_value, starts_with_minus}
use Rattle.table_formula.specs.declared.literal.Literal.{Literal}

-- whether a byte is a line feed
abbrev pub is_feed : ℕ → Bool
is_feed byte = byte == 10

-- whether a byte stands between words: a blank or a line feed
abbrev pub is_space : ℕ → Bool
is_space byte = byte == 32 || is_feed byte

-- the words of a text: its parts between blanks and line feeds
abbrev pub words_of : List ℕ → List (List ℕ)
words_of text = filter (λ word. nat_lt 0 (length word)) (slice_split is_space text)

-- the number that a word spells: its bytes are decimal digits
abbrev pub number_in : List ℕ → Option ℕ
number_in word = if nat_lt 0 (length word) && all_ascii_digits word then Some (digits_value 10 word) else None

-- the literal with this sign of the variable with this number, if that is from 1 to the number of variables
abbrev pub literal_of : ℕ → Bool → Option ℕ → Option Literal
literal_of variables is_positive None = None
literal_of variables is_positive (Some number) =
    if nat_le 1 number && nat_le number variables
    then Some (record { variable = number - 1; is_positive = is_positive })
    else None

-- the literal that a word spells: a variable's number, with a minus (byte 45) in front of it for the negation
abbrev pub literal_in : ℕ → List ℕ → Option Literal
literal_in variables word =
    if starts_with_minus word then literal_of variables false (number_in (drop 1 word))
    else literal_of variables true (number_in word)

-- whether a number is there and is 0
abbrev pub is_zero : Option ℕ → Bool
is_zero None = false
is_zero (Some number) = number == 0

-- a literal in front of the first clause, if the words after it spell some
abbrev pub with_literal : Option Literal → Option (List (List Literal)) → Option (List (List Literal))
with_literal (Some l) (Some (clause ∷ clauses)) = Some ((l ∷ clause) ∷ clauses)
with_literal _ _ = None

-- the clauses that words spell: each is the literals up to a 0
abbrev pub clauses_in : ℕ → List (List ℕ) → Option (List (List Literal))
clauses_in variables [] = Some []
clauses_in variables (word ∷ words) =
    if is_zero (number_in word) then option_map (λ clauses. [] ∷ clauses) (clauses_in variables words)
    else with_literal (literal_in variables word) (clauses_in variables words)

-- the text after its first line, if that is a comment: it begins with a `c` and a blank
abbrev pub after_comment : List ℕ → List ℕ
after_comment text = if bytes_eq (take 2 text) (codes "c ") then after_first is_feed text else text

-- a text without a comment states a formula of this number of variables with these clauses: its first line is `p
-- cnf` with the numbers of variables and of clauses, and the words after that line spell the clauses
pub record States (text : List ℕ) (variables : ℕ) (clauses : List (List Literal)) : Type 0 where
  pub format : take 6 text ≡ codes "p cnf "
  pub sizes : map number_in (words_of (drop 6 (before_first is_feed text)))
      ≡ Some variables ∷ Some (length clauses) ∷ []
  pub body : clauses_in variables (words_of (after_first is_feed text)) ≡ Some clauses

-- a text states a formula, perhaps after a comment
abbrev pub ReadsAs : List ℕ → ℕ → List (List Literal) → Type 0
ReadsAs text variables clauses = States (after_comment text) variables clauses
