-- The private contracts of the parser: what is left of its text, and what its methods return.
use Rattle.std.specs.Prelude.{◌≡◌, ◌≢◌, ◌-◌, ◌≤◌, ℕ, List, Result, Ok, Err, Box, box_value, length}
use Rattle.std.specs.Global.{Global}
use Rattle.node_lang.specs.declared.fault.FaultKind.TheVariants as kind
use Rattle.node_lang.specs.declared.fault.Stop.{Stop}
use Rattle.node_lang.specs.declared.parser.Parser.{Parser}
use Rattle.node_lang.specs.Lexemes.{Lexeme, lexemes_from}
use Rattle.node_lang.specs.Grammar.{Reads}
use Rattle.node_lang.specs.Following.{IsExpectedAt}
use Rattle.node_lang.specs.Faults.{FaultsAt}
use Rattle.node_lang.specs.Reading.{Read, Reader, Got, Fault, ◌>>=◌, ◌>>◌, done, exactly, expression, node}
use Rattle.node_lang.specs.Reading.{number, operand}
use Rattle.node_lang.specs.declared.token.Token.{Token}
use Rattle.node_lang.specs.declared.token.Token.TheVariants as token
use Rattle.node_program.specs.declared.limits.TheConstants.{MAX_DEPTH}
use Rattle.node_program.specs.declared.tree.UnOp.{UnOp}
use Rattle.node_program.specs.declared.tree.BinOp.{BinOp}
use Rattle.node_program.specs.declared.tree.Expr.{Expr}
use Rattle.node_program.specs.Term.{Term, One, Two, Choose, ProgramTree, term_of}

-- A method of the parser behaves as this reader: it returns the tree and moves the parser past the nodes and lexemes
-- read, or it returns the reader's fault. For want of memory only the offset 0 is stated.
abbrev pub Gives : {T A : Type 0} → (T → A) → Parser → Parser → Result T Stop → (ℕ → List Lexeme → Read A) → Type 0
Gives tree old new (Ok v) read =
    (new.text.now ≡ old.text.now)
    × (read old.nodes (lexemes_from old.text.now old.at)
    ≡ Got (tree v) new.nodes (lexemes_from old.text.now new.at))
Gives tree old new (Err f) read =
    (f.kind ≡ kind.OutOfMemory → f.offset ≡ 0)
    × (f.kind ≢ kind.OutOfMemory → (f.offset ≤ length old.text.now)
    × (read old.nodes (lexemes_from old.text.now old.at) ≡ Fault f.kind f.expected (length old.text.now - f.offset)))

-- Reading a text stops here: at offset 0 for want of memory, or else the text reads as no program, this is its
-- fault, and this can follow there.
pub record StopsAt (text : List ℕ) (stop : Stop) : Type 0 where
  pub memory : stop.kind ≡ kind.OutOfMemory → stop.offset ≡ 0
  pub none : stop.kind ≢ kind.OutOfMemory → (p : ProgramTree) → Reads text p → ⊥
  pub fault : stop.kind ≢ kind.OutOfMemory → FaultsAt text stop.kind stop.offset
  pub expected : stop.kind ≢ kind.OutOfMemory → IsExpectedAt text stop.offset stop.expected

-- a word of the header and its number
abbrev pub field : Token → ℕ → ℕ → Reader ℕ
field word low high = exactly word >> number low high

-- two tokens, and the expression after them
unfoldable pub expression_after : Token → Token → Reader Term
expression_after first second = do
  exactly first
  exactly second
  expression MAX_DEPTH

-- the tree of an expression in a box
abbrev pub boxed : Box Expr Global → Term
boxed b = term_of (box_value b)

-- an operand and the mark after it
abbrev pub marked : Reader Term → Token → Reader Term
marked operand mark = do
  a ← operand
  exactly mark
  done a

-- the last two operands and the parenthesis that closes them
abbrev pub pair_of : Reader Term → Reader (Term × Term)
pair_of operand = do
  a ← marked operand token.Comma
  b ← marked operand token.Close
  done (a, b)

-- the count of an operation's node, and the parenthesis that opens its operands
abbrev pub opened : ℕ → ℕ → Reader (Unit {0})
opened levels from = node levels from >> exactly token.Open

-- the rest of an operation, with this many levels left, from its node's count on
abbrev pub after_one : UnOp → ℕ → ℕ → Reader Term
after_one op levels from = do
  opened levels from
  a ← marked (operand levels) token.Close
  done (One op a)

abbrev pub after_two : BinOp → ℕ → ℕ → Reader Term
after_two op levels from = do
  opened levels from
  p ← pair_of (operand levels)
  done (Two op p.0 p.1)

abbrev pub after_if : ℕ → ℕ → Reader Term
after_if levels from = do
  opened levels from
  c ← marked (operand levels) token.Comma
  p ← pair_of (operand levels)
  done (Choose c p.0 p.1)
