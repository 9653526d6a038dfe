-- Reading a text from the left: each reader returns a tree, or the fault at which it stops.
use Rattle.std.specs.Prelude.{◌&&◌, ◌++◌, ℕ, zero, suc, ◌+◌, ◌==◌, Bool, true, false, nat_le, List, [], ◌∷◌, Option}
use Rattle.std.specs.Prelude.{Some, None, if◌then◌else◌}
use Rattle.node_program.specs.declared.limits.TheConstants.{MAX_CHANNELS, MAX_DEPTH, MAX_NODES}
use Rattle.node_program.specs.declared.limits.TheConstants.{MAX_REGISTERS, MAX_ROUNDS}
use Rattle.node_lang.specs.declared.fault.FaultKind.{FaultKind}
use Rattle.node_lang.specs.declared.fault.FaultKind.TheVariants as kind
use Rattle.node_lang.specs.declared.expected.Expected.{Expected}
use Rattle.node_lang.specs.declared.expected.Expected.TheVariants as expected
use Rattle.node_lang.specs.declared.token.Token.{Token}
use Rattle.node_lang.specs.declared.token.Token.TheVariants as token
use Rattle.node_program.specs.Term.{Term, Literal, Identifier, LeftMessage, RightMessage, RegisterValue, One, Two}
use Rattle.node_program.specs.Term.{Choose, Round, ProgramTree}
use Rattle.node_lang.specs.Lexemes.{Lexeme}

-- What was read, with the number of expression nodes so far and the lexemes left; or a fault, with what was expected
-- there and the number of bytes from it to the end of the text.
pub data Read (A : Type 0) : Type 0 where
  Got : A → ℕ → List Lexeme → Read A
  Fault : FaultKind → Expected → ℕ → Read A

-- passes what was read to the next reader, or the fault on
abbrev pub go_on : {A B : Type 0} → Read A → (A → ℕ → List Lexeme → Read B) → Read B
go_on (Got a nodes left) next = next a nodes left
go_on (Fault k e from) next = Fault k e from

-- a reader, from the number of nodes so far and the lexemes left
abbrev pub Reader : Type 0 → Type 0
Reader A = ℕ → List Lexeme → Read A

infixl 10 ◌>>=◌
abbrev pub ◌>>=◌ : {A B : Type 0} → (ℕ → List Lexeme → Read A) →
    (A → ℕ → List Lexeme → Read B) → ℕ → List Lexeme → Read B
(first >>= next) nodes left = go_on (first nodes left) next

infixl 10 ◌>>◌
abbrev pub ◌>>◌ : {A B : Type 0} → (ℕ → List Lexeme → Read A) → (ℕ → List Lexeme → Read B) → ℕ → List Lexeme → Read B
(first >> second) nodes left = go_on (first nodes left) (λ _. second)

abbrev pub done : {A : Type 0} → A → ℕ → List Lexeme → Read A
done a nodes left = Got a nodes left

abbrev pub refuse : {A : Type 0} → FaultKind → Expected → Lexeme → ℕ → List Lexeme → Read A
refuse k e l nodes left = Fault k e l.from

-- passes a token of the language, and refuses any other
abbrev pub lawful : Expected → Token → Lexeme → Reader Lexeme
lawful e token.LargeNumber l = refuse kind.NumberTooLarge e l
lawful e token.Unknown l = refuse kind.BadWord e l
lawful e _ l = done l

-- the next token, where this is expected
abbrev pub next : Expected → Reader Lexeme
next e nodes [] = Fault kind.EndOfText e 0
next e nodes (l ∷ ls) = lawful e l.token l nodes ls

-- whether two tokens are the same; operations are never expected, and so are not compared
abbrev pub same_token : Token → Token → Bool
same_token (token.Register i) (token.Register j) = i == j
same_token token.Rounds token.Rounds = true
same_token token.Channels token.Channels = true
same_token token.Registers token.Registers = true
same_token token.Start token.Start = true
same_token token.Round token.Round = true
same_token token.Send token.Send = true
same_token token.Left token.Left = true
same_token token.Right token.Right = true
same_token token.Finish token.Finish = true
same_token token.Open token.Open = true
same_token token.Close token.Close = true
same_token token.Comma token.Comma = true
same_token token.Equals token.Equals = true
same_token _ _ = false

-- expects this token
abbrev pub exactly : Token → Reader (Unit {0})
exactly t = do
  l ← next (expected.This t)
  if same_token l.token t then done tt else refuse kind.Unexpected (expected.This t) l

-- counts an expression node with this many levels left
abbrev pub node : ℕ → ℕ → Reader (Unit {0})
node levels from nodes left = if levels == 0 then Fault kind.TooDeep expected.Expression from
    else if nat_le MAX_NODES nodes then Fault kind.TooManyNodes expected.Expression from else Got tt (nodes + 1) left

-- operands in parentheses, each by the given reader
unfoldable pub one_of : Reader Term → Reader Term
one_of operand = do
  exactly token.Open
  a ← operand
  exactly token.Close
  done a

unfoldable pub two_of : Reader Term → Reader (Term × Term)
two_of operand = do
  exactly token.Open
  a ← operand
  exactly token.Comma
  b ← operand
  exactly token.Close
  done (a, b)

unfoldable pub three_of : Reader Term → Reader (Term × Term × Term)
three_of operand = do
  exactly token.Open
  c ← operand
  exactly token.Comma
  a ← operand
  exactly token.Comma
  b ← operand
  exactly token.Close
  done (c, a, b)

-- the rest of an expression that begins with this token; none if no expression does
abbrev pub after : Reader Term → Token → Option (Reader Term)
after operand (token.Number n) = Some (done (Literal n))
after operand token.Id = Some (done Identifier)
after operand token.FromLeft = Some (done LeftMessage)
after operand token.FromRight = Some (done RightMessage)
after operand (token.Register j) = Some (done (RegisterValue j))
after operand (token.One o) = Some (one_of operand >>= λ a. done (One o a))
after operand (token.Two o) = Some (two_of operand >>= λ p. done (Two o p.0 p.1))
after operand token.If = Some (three_of operand >>= λ p. done (Choose p.0 p.1 p.2))
after operand _ = None

-- the token is judged first, then the depth, then the number of nodes
abbrev pub begun : ℕ → Lexeme → Option (Reader Term) → Reader Term
begun levels l None = refuse kind.Unexpected expected.Expression l
begun levels l (Some more) = node levels l.from >> more

-- an expression with this many levels left, with the given reader for its operands
abbrev pub level : ℕ → Reader Term → Reader Term
level levels operand = do
  l ← next expected.Expression
  begun levels l (after operand l.token)

-- an operand of an expression with this many levels left
abbrev pub operand : ℕ → Reader Term
operand zero nodes left = Fault kind.TooDeep expected.Expression 0
operand (suc n) nodes left = level n (operand n) nodes left

-- an expression of at most this many levels
unfoldable pub expression : ℕ → Reader Term
expression levels = level levels (operand levels)

-- a number of the header, from low to high
abbrev pub in_range : ℕ → ℕ → Lexeme → Token → Reader ℕ
in_range low high l (token.Number n) = if nat_le low n && nat_le n high then done n
    else refuse kind.HeaderRange expected.Number l
in_range low high l _ = refuse kind.Unexpected expected.Number l

abbrev pub number : ℕ → ℕ → Reader ℕ
number low high = do
  l ← next expected.Number
  in_range low high l l.token

-- the numbers of the header
pub record Counts : Type 0 where
  pub rounds : ℕ
  pub channels : ℕ
  pub registers : ℕ

unfoldable pub header : Reader Counts
header = do
  exactly token.Rounds
  rounds ← number 0 MAX_ROUNDS
  exactly token.Channels
  channels ← number 1 MAX_CHANNELS
  exactly token.Registers
  registers ← number 1 MAX_REGISTERS
  exactly token.Start
  done (record { rounds = rounds; channels = channels; registers = registers })

-- the fault of a token that is not expected
abbrev pub fault_of : Token → FaultKind
fault_of token.LargeNumber = kind.NumberTooLarge
fault_of token.Unknown = kind.BadWord
fault_of _ = kind.Unexpected

-- expects the end of the text
abbrev pub end : Reader (Unit {0})
end nodes [] = Got tt nodes []
end nodes (l ∷ ls) = Fault (fault_of l.token) expected.End l.from

-- `count` parts from the j-th on, appended to those read before
abbrev pub each : {A : Type 0} → (ℕ → ℕ → List Lexeme → Read A) → ℕ → ℕ → List A → ℕ → List Lexeme → Read (List A)
each part zero j parts nodes left = Got parts nodes left
each part (suc count) j parts nodes left =
    go_on (part j nodes left) (λ a n l. each part count (j + 1) (parts ++ (a ∷ [])) n l)

-- the assignment to register j
unfoldable pub assign : ℕ → Reader Term
assign j = do
  exactly (token.Register j)
  exactly token.Equals
  expression MAX_DEPTH

unfoldable pub assigns : ℕ → Reader (List Term)
assigns registers = each assign registers 0 []

unfoldable pub round : ℕ → Reader Round
round registers = do
  exactly token.Round
  exactly token.Send
  exactly token.Left
  left ← expression MAX_DEPTH
  exactly token.Send
  exactly token.Right
  right ← expression MAX_DEPTH
  next ← assigns registers
  done (record { left = left; right = right; next = next })

unfoldable pub rounds : ℕ → ℕ → Reader (List Round)
rounds count registers = each (λ _. round registers) count 0 []

unfoldable pub program : Reader ProgramTree
program = do
  counts ← header
  start ← assigns counts.registers
  steps ← rounds counts.rounds counts.registers
  exactly token.Finish
  finish ← expression MAX_DEPTH
  end
  done (record { channels = counts.channels; start = start; steps = steps; finish = finish })
