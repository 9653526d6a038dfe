-- The tokens of a text, each with its span. Blanks and comments only separate tokens.
use Rattle.std.specs.Prelude.{◌≡◌, ◌<◌, ℕ, ◌+◌, ◌==◌, Bool, true, false, List, [], ◌∷◌, map, length, drop, max}
use Rattle.std.specs.Prelude.{if◌then◌else◌, slice_index}
use Rattle.std.specs.List.{prefix_len}
use Rattle.node_lang.specs.declared.token.Token.{Token}
use Rattle.node_lang.specs.Words.{is_blank, is_word_byte, word_token, mark_token}

-- A token and the number of bytes from its first byte to the end of the text. Its offset is the text's length less
-- `from`.
pub record Lexeme : Type 0 where
  pub from : ℕ
  pub token : Token

-- The text with blanks in place of its comments. A comment goes from `#` up to the next byte 10 or the end;
-- the flag says whether the text begins inside one.
abbrev pub blanked : Bool → List ℕ → List ℕ
blanked inside [] = []
blanked true (b ∷ bs) = if b == 10 then 10 ∷ blanked false bs else (32 ∷ blanked true bs)
blanked false (b ∷ bs) = if b == 35 then 32 ∷ blanked true bs else (b ∷ blanked false bs)

-- the word at the start of a text, which may be empty, and the lexemes after it
pub record Split : Type 0 where
  pub word : List ℕ
  pub rest : List Lexeme

-- the lexemes of a text of `count` bytes: that of the word at its start, which may be empty, and those after it
abbrev pub joined : ℕ → List ℕ → List Lexeme → List Lexeme
joined count [] rest = rest
joined count (b ∷ bs) rest = record { from = count; token = word_token (b ∷ bs) } ∷ rest

-- the split of a text with one more byte in front of `count` others
abbrev pub put_before : ℕ → ℕ → Split → Split
put_before b count after =
    if is_word_byte b then record { word = b ∷ after.word; rest = after.rest }
    else if is_blank b then record { word = []; rest = joined count after.word after.rest }
    else record {
      word = [];
      rest = record { from = count + 1; token = mark_token b }
          ∷ joined count after.word after.rest;
    }

-- the split of a text without comments
abbrev pub split_of : List ℕ → Split
split_of [] = record { word = []; rest = [] }
split_of (b ∷ bs) = put_before b (length bs) (split_of bs)

-- the lexemes of a text
unfoldable pub lexemes_of : List ℕ → List Lexeme
lexemes_of text = joined (length text) (split_of (blanked false text)).word (split_of (blanked false text)).rest

-- the lexemes of a text from the byte `at` on
abbrev pub lexemes_from : List ℕ → ℕ → List Lexeme
lexemes_from text at = lexemes_of (drop at text)

-- the text begins with a token: its first byte is no blank and begins no comment
pub record BeginsWithToken (text : List ℕ) : Type 0 where
  pub some : 0 < length text
  pub no_blank : is_blank (slice_index text 0) ≡ false
  pub no_comment : slice_index text 0 ≡ 35 → ⊥

-- the number of bytes of the token at the start of a text: those of the word there, or 1
abbrev pub token_len : List ℕ → ℕ
token_len text = max 1 (prefix_len is_word_byte text)

abbrev pub tokens_in : List Lexeme → List Token
tokens_in lexemes = map (λ l. l.token) lexemes

-- the tokens of a text
abbrev pub tokens_of : List ℕ → List Token
tokens_of text = tokens_in (lexemes_of text)
