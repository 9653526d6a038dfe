-- The forms of a line: a comment, a deletion, or an addition, which may be after an exchange.
use Rattle.std.specs.Prelude.{◌==◌, ℕ, Bool, true, List, [], ◌∷◌, Option, None, Some, option_map, if◌then◌else◌}
use Rattle.table_formula.specs.declared.literal.Literal.{Literal}
use Rattle.table_formula.specs.declared.formula.exchange.Exchange.{Exchange}
use Rattle.table_formula.specs.declared.formula.exchange.Exchange.TheVariants as exchange
use Rattle.table_formula.specs.declared.refutation.forms.Letter.{Letter}
use Rattle.table_formula.specs.declared.refutation.forms.Letter.TheVariants as letter
use Rattle.table_formula.specs.Words.{words_of, number_in, literal_in, is_end}

-- what a line says: nothing, which clauses it deletes, or which clause it adds, after which exchange if any, with
-- which hints
pub data Line : Type 0 where
  Comment : Line
  Deletion : List ℕ → Line
  Addition : Option Exchange → ℕ → List Literal → List ℕ → Line

-- an item in front of a list and of the words after it
abbrev pub with_item : {X : Type 0} → Option X → Option (List X × List (List ℕ)) → Option (List X × List (List ℕ))
with_item None others = None
with_item (Some item) None = None
with_item (Some item) (Some others) = Some (item ∷ others.0, others.1)

-- the items that words spell up to the first word that ends a list, and the words after that one
abbrev pub list_in : {X : Type 0} → (List ℕ → Option X) → List (List ℕ) → Option (List X × List (List ℕ))
list_in item_in [] = None
list_in item_in (word ∷ words) = if is_end word then Some ([], words)
    else with_item (item_in word) (list_in item_in words)

-- the items, if there is no word after their list
abbrev pub whole_list : {X : Type 0} → Option (List X × List (List ℕ)) → Option (List X)
whole_list None = None
whole_list (Some (items, [])) = Some items
whole_list (Some (items, word ∷ words)) = None

-- the numbers that all the words spell
abbrev pub numbers_in : List (List ℕ) → Option (List ℕ)
numbers_in words = whole_list (list_in number_in words)

-- an addition with this number: the literals are read, and the words after them are the hints
abbrev pub addition_of : Option Exchange → ℕ → Option (List Literal × List (List ℕ)) → Option Line
addition_of by number None = None
addition_of by number (Some (clause, words)) = option_map (Addition by number clause) (numbers_in words)

-- the letter that a word is: d (byte 100), i (105), c (99) or m (109)
abbrev pub letter_of : List ℕ → Option Letter
letter_of (byte ∷ []) =
    if byte == 100 then Some letter.Deletion
    else if byte == 105 then Some letter.Identifiers
    else if byte == 99 then Some letter.Channels
    else if byte == 109 then Some letter.Mirror
    else None
letter_of _ = None

-- the two numbers that the first two words spell, and the words after these
abbrev pub both : Option ℕ → Option ℕ → List (List ℕ) → Option ((ℕ × ℕ) × List (List ℕ))
both None second words = None
both (Some first) None words = None
both (Some first) (Some second) words = Some ((first, second), words)

abbrev pub two_numbers : List (List ℕ) → Option ((ℕ × ℕ) × List (List ℕ))
two_numbers (first ∷ second ∷ words) = both (number_in first) (number_in second) words
two_numbers _ = None

-- the exchange that a letter and the words after it spell, and the words after these
abbrev pub exchange_in : Letter → List (List ℕ) → Option (Exchange × List (List ℕ))
exchange_in letter.Deletion words = None
exchange_in letter.Identifiers words = option_map (λ r. (exchange.Identifiers r.0.0 r.0.1, r.1)) (two_numbers words)
exchange_in letter.Channels words = option_map (λ r. (exchange.Channels r.0.0 r.0.1, r.1)) (two_numbers words)
exchange_in letter.Mirror words = Some (exchange.Mirror, words)

-- an addition after an exchange, if that is there
abbrev pub exchanging : ℕ → Option (Exchange × List (List ℕ)) → Option Line
exchanging number None = None
exchanging number (Some (by, words)) = addition_of (Some by) number (list_in literal_in words)

-- what words say after a number and this letter
abbrev pub lettered_line : Letter → ℕ → List (List ℕ) → Option Line
lettered_line letter.Deletion number words = option_map Deletion (numbers_in words)
lettered_line l number words = exchanging number (exchange_in l words)

-- what words say after a number, the first of which may be a letter
abbrev pub line_with : Option Letter → ℕ → List ℕ → List (List ℕ) → Option Line
line_with None number word words = addition_of None number (list_in literal_in (word ∷ words))
line_with (Some l) number word words = lettered_line l number words

-- what the words after the first say, which is this number
abbrev pub numbered_line : Option ℕ → List (List ℕ) → Option Line
numbered_line None words = None
numbered_line (Some number) [] = None
numbered_line (Some number) (word ∷ words) = line_with (letter_of word) number word words

-- what the words of a line say
abbrev pub line_of_words : List (List ℕ) → Option Line
line_of_words [] = None
line_of_words (word ∷ words) = numbered_line (number_in word) words

-- whether a line is empty, or begins with the letter c (byte 99)
abbrev pub is_comment : List ℕ → Bool
is_comment [] = true
is_comment (byte ∷ bytes) = byte == 99

-- what a line says, if it has one of the forms
abbrev pub line_in : List ℕ → Option Line
line_in line = if is_comment line then Some Comment else line_of_words (words_of line)
