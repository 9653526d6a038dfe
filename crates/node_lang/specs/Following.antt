-- What can follow at an offset of a program text, by the tokens before it.
use Rattle.std.specs.Prelude.{◌≡◌, ◌≢◌, ◌⊎◌, ◌↔◌, ℕ, ◌-◌, List, [], ◌∷◌, ◌++◌, length, Option, Some, None}
use Rattle.node_lang.specs.declared.expected.Expected.{Expected}
use Rattle.node_lang.specs.declared.expected.Expected.TheVariants as expected
use Rattle.node_lang.specs.declared.fault.FaultKind.{FaultKind}
use Rattle.node_lang.specs.declared.fault.FaultKind.TheVariants as kind
use Rattle.node_lang.specs.declared.token.Token.{Token}
use Rattle.node_lang.specs.declared.token.Token.TheVariants as token
use Rattle.node_lang.specs.Lexemes.{Lexeme, lexemes_of, tokens_in}
use Rattle.node_lang.specs.Viable.{IsViable, IsWhole}

-- a number
abbrev pub IsNumber : Token → Type 0
IsNumber (token.Number n) = Unit {0}
IsNumber _ = ⊥

-- a token with which an expression can begin
abbrev pub BeginsExpression : Token → Type 0
BeginsExpression (token.Number n) = Unit {0}
BeginsExpression token.Id = Unit {0}
BeginsExpression token.FromLeft = Unit {0}
BeginsExpression token.FromRight = Unit {0}
BeginsExpression (token.Register j) = Unit {0}
BeginsExpression (token.One o) = Unit {0}
BeginsExpression (token.Two o) = Unit {0}
BeginsExpression token.If = Unit {0}
BeginsExpression _ = ⊥

-- the tokens that are meant; none for the end
abbrev pub Means : Expected → Token → Type 0
Means (expected.This s) t = t ≡ s
Means expected.Number t = IsNumber t
Means expected.Expression t = BeginsExpression t
Means expected.End t = ⊥

-- After these tokens exactly the tokens that are meant can go on to a program, and the tokens are a whole program
-- exactly if the end is meant.
pub record Follows (before : List Token) (e : Expected) : Type 0 where
  pub tokens : (t : Token) → Means e t ↔ IsViable (before ++ t ∷ [])
  pub ended : (e ≡ expected.End) ↔ IsWhole before

-- the number of bytes from the first of these lexemes to the end of the text
abbrev pub from_first : List Lexeme → ℕ
from_first [] = 0
from_first (l ∷ ls) = l.from

-- Of these lexemes some stand before the offset that is this number of bytes before the end of the text, and this can
-- follow their tokens; the others stand from there on.
pub record FollowsAt (before : List Token) (lexemes : List Lexeme) (from : ℕ) (e : Expected) : Type 0 where
  pub earlier : List Lexeme
  pub later : List Lexeme
  pub are : lexemes ≡ earlier ++ later
  pub offset : from ≡ from_first later
  pub follows : Follows (before ++ tokens_in earlier) e

-- this can follow the tokens of a text before this offset
abbrev pub IsExpectedAt : List ℕ → ℕ → Expected → Type 0
IsExpectedAt text offset e = FollowsAt [] (lexemes_of text) (length text - offset) e

-- What is expected at a fault of this kind: what can follow the tokens before it. Nothing is expected in a text that is
-- too long or not ASCII.
abbrev pub IsExpected : List ℕ → FaultKind → ℕ → Option Expected → Type 0
IsExpected text k offset None = (k ≡ kind.TooLong) ⊎ (k ≡ kind.NotAscii)
IsExpected text k offset (Some e) = (k ≢ kind.TooLong) × (k ≢ kind.NotAscii) × IsExpectedAt text offset e
