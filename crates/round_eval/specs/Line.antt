-- The state of a node from the identifiers around it alone, by a line of states that shrinks by two in each round
-- (Linial 1992).
use Rattle.std.specs.Prelude.{ℕ, zero, suc, ◌+◌, ◌-◌, List, [], map, length, slice_index_or}
use Rattle.std.specs.List.{range_with_len}
use Rattle.node_program.specs.Term.{ProgramTree}
use Rattle.node_program.specs.Node.{start, to_left, to_right, next}

-- the registers of a node after round k, from its own before it and those of its left and right neighbour
abbrev pub between : ProgramTree → ℕ → List ℕ → List ℕ → List ℕ → List ℕ
between p k left own right = next p k own (to_right p k left) (to_left p k right)

-- item j of a line of states
abbrev pub item : List (List ℕ) → ℕ → List ℕ
item u j = slice_index_or u j []

-- round k on a line: two states fewer, since the first and the last lack a neighbour; item j is computed from the items
-- j, j+1 and j+2 before the round
abbrev pub shrunk : ProgramTree → ℕ → List (List ℕ) → List (List ℕ)
shrunk p k u = map (λ j. between p k (item u j) (item u (j + 1)) (item u (j + 2))) (range_with_len 0 (length u - 2))

-- the line of the identifiers w after k rounds, from their start states
abbrev pub line : ProgramTree → List ℕ → ℕ → List (List ℕ)
line p w zero = map (start p) w
line p w (suc k) = shrunk p k (line p w k)

-- the one state that remains of the 2r+1 identifiers w after r rounds
unfoldable pub middle_state : ProgramTree → ℕ → List ℕ → List ℕ
middle_state p r w = item (line p w r) 0
