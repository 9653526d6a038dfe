-- The first fault of a program text, defined without a parser: the first offset where the tokens up to it are no prefix
-- of a program.
use Rattle.std.specs.Prelude.{◌≡◌, ◌≢◌, ◌⊎◌, ℕ, zero, suc, ◌+◌, ◌<◌, ◌≤◌, List, [], ◌∷◌, ◌++◌, length, map, All, sum_by}
use Rattle.node_program.specs.declared.limits.TheConstants.{MAX_CHANNELS, MAX_DEPTH, MAX_NODES}
use Rattle.node_program.specs.declared.limits.TheConstants.{MAX_REGISTERS, MAX_ROUNDS}
use Rattle.node_lang.specs.declared.fault.FaultKind.{FaultKind}
use Rattle.node_lang.specs.declared.fault.FaultKind.TheVariants as kind
use Rattle.node_lang.specs.declared.token.Token.{Token}
use Rattle.node_lang.specs.declared.token.Token.TheVariants as token
use Rattle.node_program.specs.Term.{Term, Literal, Identifier, LeftMessage, RightMessage, RegisterValue, One, Two}
use Rattle.node_program.specs.Term.{Choose, Round, ProgramTree}
use Rattle.node_lang.specs.Lexemes.{Lexeme}
use Rattle.node_lang.specs.Grammar.{spelling}

-- a program of any size: each round has an assignment for each register
abbrev pub IsProgram : ProgramTree → Type 0
IsProgram p = All (λ s. length s.next ≡ length p.start) p.steps

-- the tokens are a prefix of a program
pub record IsViable (tokens : List Token) : Type 0 where
  pub program : ProgramTree
  pub more : List Token
  pub each_register : IsProgram program
  pub spells : tokens ++ more ≡ spelling program

-- the tokens are a whole program
pub record IsWhole (tokens : List Token) : Type 0 where
  pub program : ProgramTree
  pub each_register : IsProgram program
  pub spells : tokens ≡ spelling program

-- a token of a program with the depth of the node that begins there, or 0 where none does
pub record Mark : Type 0 where
  pub token : Token
  pub depth : ℕ

-- a token that begins a node of this depth
abbrev pub node : Token → ℕ → Mark
node t depth = record { token = t; depth = depth }

-- a token that begins no node
abbrev pub plain : Token → Mark
plain t = node t 0

-- the marks of an expression whose root has this depth, then `more`
abbrev pub marked : Term → ℕ → List Mark → List Mark
marked (Literal n) d more = node (token.Number n) d ∷ more
marked Identifier d more = node token.Id d ∷ more
marked LeftMessage d more = node token.FromLeft d ∷ more
marked RightMessage d more = node token.FromRight d ∷ more
marked (RegisterValue j) d more = node (token.Register j) d ∷ more
marked (One o a) d more = node (token.One o) d ∷ plain token.Open ∷ marked a (d + 1) (plain token.Close ∷ more)
marked (Two o a b) d more = node (token.Two o) d ∷ plain token.Open
    ∷ marked a (d + 1) (plain token.Comma ∷ marked b (d + 1) (plain token.Close ∷ more))
marked (Choose c a b) d more = node token.If d ∷ plain token.Open
    ∷ marked c (d + 1) (plain token.Comma
    ∷ marked a (d + 1) (plain token.Comma ∷ marked b (d + 1) (plain token.Close ∷ more)))

-- the marks of assignments to the registers from j on, then `more`
abbrev pub marked_assignments : ℕ → List Term → List Mark → List Mark
marked_assignments j [] more = more
marked_assignments j (e ∷ es) more =
    plain (token.Register j) ∷ plain token.Equals ∷ marked e 1 (marked_assignments (j + 1) es more)

abbrev pub marked_blocks : List Round → List Mark → List Mark
marked_blocks [] more = more
marked_blocks (s ∷ ss) more = plain token.Round ∷ plain token.Send ∷ plain token.Left ∷ marked s.left 1
    (plain token.Send ∷ plain token.Right ∷ marked s.right 1 (marked_assignments 0 s.next (marked_blocks ss more)))

-- the marks of a whole program
abbrev pub marks : ProgramTree → List Mark
marks p = plain token.Rounds ∷ plain (token.Number (length p.steps)) ∷ plain token.Channels
    ∷ plain (token.Number p.channels)
    ∷ plain token.Registers ∷ plain (token.Number (length p.start)) ∷ plain token.Start
    ∷ marked_assignments 0 p.start (marked_blocks p.steps (plain token.Finish ∷ marked p.finish 1 []))

-- the tokens of marks
abbrev pub unmarked : List Mark → List Token
unmarked ms = map (λ m. m.token) ms

-- 1 at the depth of a node, 0 where none begins
abbrev pub one_at : ℕ → ℕ
one_at zero = 0
one_at (suc d) = 1

-- the number of nodes that begin at these marks
abbrev pub nodes_at : List Mark → ℕ
nodes_at ms = sum_by (λ m. one_at m.depth) ms

-- In some program with these tokens as a prefix, the next token begins a node of this depth, after this many nodes.
pub record BeginsNode (before : List Token) (met : Token) (depth nodes : ℕ) : Type 0 where
  pub program : ProgramTree
  pub marks_before : List Mark
  pub marks_after : List Mark
  pub each_register : IsProgram program
  pub are : marks program ≡ marks_before ++ node met depth ∷ marks_after
  pub tokens_before : unmarked marks_before ≡ before
  pub is_node : 0 < depth
  pub nodes_are : nodes_at marks_before ≡ nodes

-- a number that is not in the range from low to high
abbrev pub IsOutside : ℕ → ℕ → ℕ → Type 0
IsOutside low high n = (n < low) ⊎ (high < n)

-- a number of the header out of its range: rounds up to MAX_ROUNDS, channels 1 to MAX_CHANNELS, registers 1 to
-- MAX_REGISTERS
pub data IsOutOfRange : List Token → Token → Type 0 where
  rounds : (t : ℕ) → IsOutside 0 MAX_ROUNDS t → IsOutOfRange (token.Rounds ∷ []) (token.Number t)
  channels : (t c : ℕ) → IsOutside 1 MAX_CHANNELS c →
      IsOutOfRange (token.Rounds ∷ token.Number t ∷ token.Channels ∷ []) (token.Number c)
  registers : (t c k : ℕ) → IsOutside 1 MAX_REGISTERS k →
      IsOutOfRange (token.Rounds ∷ token.Number t ∷ token.Channels ∷ token.Number c ∷ token.Registers ∷ [])
      (token.Number k)

-- The token after these has a fault of this kind. A node that is both too deep and one too many is too deep.
pub data Stands (before : List Token) (met : Token) : FaultKind → Type 0 where
  unknown : met ≡ token.Unknown → Stands before met kind.BadWord
  large : met ≡ token.LargeNumber → Stands before met kind.NumberTooLarge
  out_of_range : IsOutOfRange before met → Stands before met kind.HeaderRange
  unexpected : met ≢ token.Unknown → met ≢ token.LargeNumber → (IsOutOfRange before met → ⊥) →
      (IsViable (before ++ met ∷ []) → ⊥) →
      Stands before met kind.Unexpected
  too_deep : (depth nodes : ℕ) → MAX_DEPTH < depth → BeginsNode before met depth nodes → Stands before met kind.TooDeep
  too_many : (depth nodes : ℕ) → depth ≤ MAX_DEPTH → MAX_NODES ≤ nodes →
      BeginsNode before met depth nodes → Stands before met kind.TooManyNodes

-- The first fault of the lexemes after these tokens, with the number of bytes from it to the end of the text: the fault
-- of the next token, or else the first one after it; at the end of the text, that the tokens are no whole program.
abbrev pub FirstFault : List Token → List Lexeme → FaultKind → ℕ → Type 0
FirstFault before [] k from = (k ≡ kind.EndOfText) × (from ≡ 0) × (IsWhole before → ⊥)
FirstFault before (l ∷ ls) k from =
    (Stands before l.token k × (from ≡ l.from))
    ⊎ (((other : FaultKind) → Stands before l.token other → ⊥) × FirstFault (before ++ l.token ∷ []) ls k from)
