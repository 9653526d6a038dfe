-- The laws of this crate.
use Rattle.std.specs.Prelude.{◌≡◌, ℕ, ◌+◌, ◌-◌, ◌*◌, ◌≤◌, List, map, take, drop, length}
use Rattle.std.specs.List.{range_with_len}
use Rattle.node_program.specs.Term.{ProgramTree}
use Rattle.node_program.specs.Node.{to_left, to_right}
use Rattle.node_program.specs.GlobalRounds.{left_of, right_of, state}
use Rattle.round_eval.specs.Rows.{row_after, rows, stretch}

-- in a global round, consecutive places of a ring step as a row between the messages of the two places beside it. The
-- whole ring is such a stretch, closed on itself: its last place is to the left of place 0
abbrev pub StretchesAreRows : Type 0
StretchesAreRows =
    (p : ProgramTree) (x : List ℕ) (r first count : ℕ) → first + count ≤ length x
    → stretch p x (r + 1) first count
    ≡ row_after p r (to_right p r (state p x r (left_of x first))) (stretch p x r first count)
    (to_left p r (state p x r (right_of x (first + count - 1))))

-- the rows of cells are their parts of a row's width, by index
abbrev pub RowsAreTaken : Type 0
RowsAreTaken =
    (width n : ℕ) (cells : List ℕ)
    → rows width n cells ≡ map (λ i. take width (drop (i * width) cells)) (range_with_len 0 n)
