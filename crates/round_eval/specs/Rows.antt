-- Rows of nodes, each to the left of the next, and rows of cells with the registers of such nodes.
use Rattle.std.specs.Prelude.{ℕ, zero, suc, List, [], ◌∷◌, map, take, drop}
use Rattle.std.specs.List.{range_with_len}
use Rattle.node_program.specs.Term.{ProgramTree}
use Rattle.node_program.specs.Node.{to_left, to_right, next}
use Rattle.node_program.specs.GlobalRounds.{state}

-- what a row sends left in round r: the message of its first node, or `right` if the row is empty
abbrev pub sent_left : ProgramTree → ℕ → List (List ℕ) → ℕ → ℕ
sent_left p r [] right = right
sent_left p r (own ∷ row) right = to_left p r own

-- the registers of a row after round r, with the message `left` to its first node and `right` to its last one
abbrev pub row_after : ProgramTree → ℕ → ℕ → List (List ℕ) → ℕ → List (List ℕ)
row_after p r left [] right = []
row_after p r left (own ∷ row) right = next p r own left (sent_left p r row right)
    ∷ row_after p r (to_right p r own) row right

-- the first n rows of a list of cells, for rows of this width
abbrev pub rows : ℕ → ℕ → List ℕ → List (List ℕ)
rows width zero cells = []
rows width (suc n) cells = take width cells ∷ rows width n (drop width cells)

-- the registers of `count` places of the ring x from the place `first` on, after r rounds
abbrev pub stretch : ProgramTree → List ℕ → ℕ → ℕ → ℕ → List (List ℕ)
stretch p x r first count = map (state p x r) (range_with_len first count)
