-- The laws of this crate: a tree shows each part of an expression that counts, and the value at its root is what a
-- trace and a run show.
use Rattle.std.specs.Prelude.{◌≡◌, ℕ, ◌+◌, ◌<◌, List, ◌++◌, codes, length, slice_get, slice_index, Some}
use Rattle.node_program.specs.Term.{Term, Round, ProgramTree}
use Rattle.node_program.specs.Value.{Env, value}
use Rattle.node_program.specs.Node.{knowing_id, to_left, to_right}
use Rattle.node_program.specs.GlobalRounds.{state, channels_of}
use Rattle.value_trees.specs.Trees.{tree_lines}
use Rattle.value_trees.specs.Parts.{IsTree}
use Rattle.value_trees.specs.Explanation.{before_messages, explanation, finish_heading, register_heading}
use Rattle.value_trees.specs.Explanation.{side_heading, with_messages}
use Rattle.numerals.specs.declared.base.Base.{Base}

-- the tree of an expression shows each of its parts that counts, and where a branch is not taken
abbrev pub TreesShowParts : Type 0
TreesShowParts = (b : Base) (env : Env) (e : Term) → IsTree b env e (tree_lines b env e)

-- the value of the expression of a register is the register before the first round, and after a round
abbrev pub StartsAreHeld : Type 0
StartsAreHeld =
    (p : ProgramTree) (x : List ℕ) (i j : ℕ) (e : Term) → slice_get p.start j ≡ Some e
    → value e (knowing_id (slice_index x i)) ≡ slice_index (state p x 0 i) j

abbrev pub AssignedAreHeld : Type 0
AssignedAreHeld =
    (p : ProgramTree) (x : List ℕ) (i r j : ℕ) (s : Round) (e : Term) → slice_get p.steps r ≡ Some s
    → slice_get s.next j ≡ Some e
    → value e (with_messages p x i r) ≡ slice_index (state p x (r + 1) i) j

-- the values of the expressions of a round's messages are the messages
abbrev pub MessagesAreSent : Type 0
MessagesAreSent =
    (p : ProgramTree) (x : List ℕ) (i r : ℕ) (s : Round) → slice_get p.steps r ≡ Some s
    → (value s.left (before_messages p x i r) ≡ to_left p r (state p x r i))
    × (value s.right (before_messages p x i r) ≡ to_right p r (state p x r i))

-- the value of the last expression is the channel
abbrev pub FinishIsChannel : Type 0
FinishIsChannel =
    (p : ProgramTree) (x : List ℕ) (i : ℕ) → i < length x
    → value p.finish (before_messages p x i (length p.steps)) ≡ slice_index (channels_of p x) i

-- the text has this heading, and below it a tree of the expression in this environment; there its value is this number
pub record Shows (b : Base) (heading : List ℕ) (env : Env) (e : Term) (number : ℕ) (text : List ℕ) : Type 0 where
  pub value_is : value e env ≡ number
  pub tree : List ℕ
  pub is_tree : IsTree b env e tree
  pub before : List ℕ
  pub others : List ℕ
  pub whole : text ≡ before ++ (heading ++ (codes "\n" ++ (tree ++ others)))

-- The text shows what the node at place i of the ring x gets and sends in global rounds, each below its heading: its
-- registers before the first round and after each, its messages, and its channel.
pub record ShowsTrace (b : Base) (p : ProgramTree) (x : List ℕ) (i : ℕ) (text : List ℕ) : Type 0 where
  pub starts : (j : ℕ) (e : Term) → slice_get p.start j ≡ Some e
      → Shows b (register_heading 0 j) (knowing_id (slice_index x i)) e (slice_index (state p x 0 i) j) text
  pub registers : (r j : ℕ) (s : Round) (e : Term) → slice_get p.steps r ≡ Some s → slice_get s.next j ≡ Some e
      → Shows b (register_heading (r + 1) j) (with_messages p x i r) e (slice_index (state p x (r + 1) i) j) text
  pub left : (r : ℕ) (s : Round) → slice_get p.steps r ≡ Some s
      → Shows b (side_heading (codes " left") (r + 1)) (before_messages p x i r) s.left
      (to_left p r (state p x r i)) text
  pub right : (r : ℕ) (s : Round) → slice_get p.steps r ≡ Some s
      → Shows b (side_heading (codes " right") (r + 1)) (before_messages p x i r) s.right
      (to_right p r (state p x r i)) text
  pub channel : Shows b (finish_heading (length p.steps)) (before_messages p x i (length p.steps)) p.finish
      (slice_index (channels_of p x) i) text

-- an explanation shows what a trace and a run do
abbrev pub ExplanationsShowTraces : Type 0
ExplanationsShowTraces = (b : Base) (p : ProgramTree) (x : List ℕ) (i : ℕ) → i < length x
    → ShowsTrace b p x i (explanation b p x i)
