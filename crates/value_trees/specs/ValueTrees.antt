-- The expressions of a program as trees of values, at a place of a ring: the parts of each that have a line, with
-- their values.
use Rattle.std.specs.Prelude.{ℕ, ◌+◌, Bool, List, [], ◌∷◌, ◌++◌, map, length, slice_index}
use Rattle.node_program.specs.Term.{Term, Round, ProgramTree, term_of}
use Rattle.node_program.specs.Value.{Env, value}
use Rattle.node_program.specs.Node.{knowing_id}
use Rattle.value_trees.specs.Parts.{Part}
use Rattle.value_trees.specs.Trees.{parts_at}
use Rattle.value_trees.specs.Explanation.{before_messages, with_messages}
use Rattle.value_trees.specs.declared.parts.TreePart.{TreePart}
use Rattle.value_trees.specs.declared.trees.Given.{Given}
use Rattle.value_trees.specs.declared.trees.Given.TheVariants.{Register, Left, Right, Channel}
use Rattle.value_trees.specs.declared.trees.ValueTree as code

-- an expression at a depth, its value, and whether it counts
pub record ValuedPart : Type 0 where
  pub depth : ℕ
  pub term : Term
  pub value : ℕ
  pub counts : Bool

-- a part with its value in an environment
abbrev pub valued : Env → Part → ValuedPart
valued env p = record { depth = p.depth; term = p.term; value = value p.term env; counts = p.counts }

-- the parts of an expression at a depth, with their values
abbrev pub valued_parts : Env → ℕ → Term → List ValuedPart
valued_parts env d e = map (valued env) (parts_at env d e)

-- the round of an expression, what it gives, and its parts with their values
pub record ValueTree : Type 0 where
  pub round : ℕ
  pub given : Given
  pub parts : List ValuedPart

-- the tree of an expression that gives this in round r
unfoldable pub tree_at : ℕ → Given → Env → Term → ValueTree
tree_at r given env e = record { round = r; given = given; parts = valued_parts env 0 e }

-- the assignments of round r, from register j on
abbrev pub assigned_trees : ℕ → Env → ℕ → List Term → List ValueTree
assigned_trees r env j [] = []
assigned_trees r env j (e ∷ es) = tree_at r (Register j) env e ∷ assigned_trees r env (j + 1) es

-- the round s after r others, at place i of the ring x: its messages, and its assignments
abbrev pub trees_of_round : ProgramTree → List ℕ → ℕ → ℕ → Round → List ValueTree
trees_of_round p x i r s =
    tree_at (r + 1) Left (before_messages p x i r) s.left
    ∷ tree_at (r + 1) Right (before_messages p x i r) s.right
    ∷ assigned_trees (r + 1) (with_messages p x i r) 0 s.next

-- rounds after r others
abbrev pub trees_of_rounds : ProgramTree → List ℕ → ℕ → ℕ → List Round → List ValueTree
trees_of_rounds p x i r [] = []
trees_of_rounds p x i r (s ∷ ss) = trees_of_round p x i r s ++ trees_of_rounds p x i (r + 1) ss

-- the whole program: before the first round, which is round 0, in each round, and at the end, in the last round
abbrev pub value_trees : ProgramTree → List ℕ → ℕ → List ValueTree
value_trees p x i =
    assigned_trees 0 (knowing_id (slice_index x i)) 0 p.start
    ++ (trees_of_rounds p x i 0 p.steps
    ++ tree_at (length p.steps) Channel (before_messages p x i (length p.steps)) p.finish ∷ [])

-- the part itself
abbrev pub unvalued : ValuedPart → Part
unvalued p = record { depth = p.depth; term = p.term; counts = p.counts }

-- a part and a tree, as the code holds them
abbrev pub part_value : TreePart → ValuedPart
part_value part = record {
  depth = part.depth;
  term = term_of part.expression.now;
  value = part.value;
  counts = part.counts;
}

abbrev pub tree_value : code.ValueTree → ValueTree
tree_value tree = record { round = tree.round; given = tree.given; parts = map part_value tree.parts.items }
