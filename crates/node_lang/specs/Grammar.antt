-- The grammar: the tokens of an expression, of a round and of a program. Each definition prepends them to the tokens
-- that follow.
use Rattle.std.specs.Prelude.{◌≡◌, ℕ, ◌+◌, ◌<◌, ◌≤◌, List, [], ◌∷◌, length, All}
use Rattle.node_lang.specs.declared.limits.TheConstants.{LONGEST_TEXT}
use Rattle.node_lang.specs.declared.token.Token.{Token}
use Rattle.node_lang.specs.declared.token.Token.TheVariants as token
use Rattle.node_program.specs.Term.{Term, Literal, Identifier, LeftMessage, RightMessage, RegisterValue, One, Two}
use Rattle.node_program.specs.Term.{Choose, Round, ProgramTree}
use Rattle.node_lang.specs.Lexemes.{tokens_of}
use Rattle.node_program.specs.Limits.{IsWithinLimits}

-- the tokens of an expression, then `more`
abbrev pub spelled : Term → List Token → List Token
spelled (Literal n) more = token.Number n ∷ more
spelled Identifier more = token.Id ∷ more
spelled LeftMessage more = token.FromLeft ∷ more
spelled RightMessage more = token.FromRight ∷ more
spelled (RegisterValue j) more = token.Register j ∷ more
spelled (One o a) more = token.One o ∷ token.Open ∷ spelled a (token.Close ∷ more)
spelled (Two o a b) more = token.Two o ∷ token.Open ∷ spelled a (token.Comma ∷ spelled b (token.Close ∷ more))
spelled (Choose c a b) more =
    token.If ∷ token.Open ∷ spelled c (token.Comma ∷ spelled a (token.Comma ∷ spelled b (token.Close ∷ more)))

-- the assignments to the registers from j on, then `more`
abbrev pub assigned : ℕ → List Term → List Token → List Token
assigned j [] more = more
assigned j (e ∷ es) more = token.Register j ∷ token.Equals ∷ spelled e (assigned (j + 1) es more)

-- a round, then `more`
abbrev pub block : Round → List Token → List Token
block s more = token.Round ∷ token.Send ∷ token.Left ∷ spelled s.left
    (token.Send ∷ token.Right ∷ spelled s.right (assigned 0 s.next more))

abbrev pub blocks : List Round → List Token → List Token
blocks [] more = more
blocks (s ∷ ss) more = block s (blocks ss more)

-- the tokens after the header
abbrev pub body : ProgramTree → List Token
body p = assigned 0 p.start (blocks p.steps (token.Finish ∷ spelled p.finish []))

-- a whole program
abbrev pub spelling : ProgramTree → List Token
spelling p = token.Rounds ∷ token.Number (length p.steps) ∷ token.Channels ∷ token.Number p.channels
    ∷ token.Registers ∷ token.Number (length p.start) ∷ token.Start ∷ body p

-- this text reads as this program
pub record Reads (text : List ℕ) (p : ProgramTree) : Type 0 where
  pub short : length text ≤ LONGEST_TEXT
  pub ascii : All (λ b. b < 128) text
  pub tokens : tokens_of text ≡ spelling p
  pub limits : IsWithinLimits p
