-- How a place of a ring computes in global rounds: each expression of the program as a tree.
use Rattle.std.specs.Prelude.{ℕ, ◌+◌, ◌-◌, ◌==◌, if◌then◌else◌, List, [], ◌∷◌, ◌++◌, codes, length, slice_index}
use Rattle.std.specs.Fmt.{decimal}
use Rattle.node_program.specs.Term.{Term, Round, ProgramTree}
use Rattle.node_program.specs.Value.{Env}
use Rattle.node_program.specs.Node.{knowing_id, reading_messages, to_left, to_right}
use Rattle.node_program.specs.GlobalRounds.{left_of, right_of, state}
use Rattle.value_trees.specs.Trees.{tree_lines}
use Rattle.numerals.specs.declared.base.Base.{Base}

-- a heading, and under it the tree of an expression
abbrev pub headed : List ℕ → Base → Env → Term → List ℕ
headed heading b env e = heading ++ (codes "\n" ++ tree_lines b env e)

-- the heading of what gives the registers after r rounds: `start` for 0, else the number of the last round, counted
-- from 1
abbrev pub phase : ℕ → List ℕ
phase r = if r == 0 then codes "start" else codes "round " ++ decimal r

-- what a heading in round r says of the registers that are read there: where they were assigned. At the start, which is
-- round 0, none are read; the last expression reads them as a further round does
abbrev pub registers_read : ℕ → List ℕ
registers_read r = if r == 0 then [] else codes ", registers of " ++ phase (r - 1)

-- the headings of register j and of the message to a side in round r, and of the channel after r rounds
abbrev pub register_heading : ℕ → ℕ → List ℕ
register_heading r j = phase r ++ (codes " r" ++ (decimal j ++ registers_read r))

abbrev pub side_heading : List ℕ → ℕ → List ℕ
side_heading side r = phase r ++ (side ++ registers_read r)

abbrev pub finish_heading : ℕ → List ℕ
finish_heading r = codes "finish" ++ registers_read (r + 1)

-- the assignments to the registers from j on, which give the registers after r rounds
abbrev pub assigned_lines : ℕ → Base → Env → ℕ → List Term → List ℕ
assigned_lines r b env j [] = []
assigned_lines r b env j (e ∷ es) = headed (register_heading r j) b env e ++ assigned_lines r b env (j + 1) es

-- what place i of the ring x can read after r rounds and before any message: its registers
abbrev pub before_messages : ProgramTree → List ℕ → ℕ → ℕ → Env
before_messages p x i r = reading_messages (state p x r i) 0 0

-- what it can read once the messages of the next round are there: that of its left neighbour to the right, and that
-- of its right neighbour to the left
abbrev pub with_messages : ProgramTree → List ℕ → ℕ → ℕ → Env
with_messages p x i r =
    reading_messages (state p x r i) (to_right p r (state p x r (left_of x i)))
    (to_left p r (state p x r (right_of x i)))

-- the round s after r others: its messages, and its assignments
abbrev pub round_trees : Base → ProgramTree → List ℕ → ℕ → ℕ → Round → List ℕ
round_trees b p x i r s =
    headed (side_heading (codes " left") (r + 1)) b (before_messages p x i r) s.left
    ++ (headed (side_heading (codes " right") (r + 1)) b (before_messages p x i r) s.right
    ++ assigned_lines (r + 1) b (with_messages p x i r) 0 s.next)

-- rounds after r others
abbrev pub rounds_trees : Base → ProgramTree → List ℕ → ℕ → ℕ → List Round → List ℕ
rounds_trees b p x i r [] = []
rounds_trees b p x i r (s ∷ ss) = round_trees b p x i r s ++ rounds_trees b p x i (r + 1) ss

-- the whole program at place i of the ring x: before the first round, in each round, and at the end
abbrev pub explanation : Base → ProgramTree → List ℕ → ℕ → List ℕ
explanation b p x i =
    assigned_lines 0 b (knowing_id (slice_index x i)) 0 p.start
    ++ (rounds_trees b p x i 0 p.steps
    ++ headed (finish_heading (length p.steps)) b (before_messages p x i (length p.steps)) p.finish)
