-- The laws of this crate.
use Rattle.std.specs.Prelude.{◌≡◌, ℕ, ◌+◌, ◌*◌, ◌<◌, ◌≤◌, List, [], ◌∷◌, ◌++◌, length, slice_index}
use Rattle.node_program.specs.Term.{ProgramTree}
use Rattle.node_program.specs.Node.{start, to_left, to_right}
use Rattle.node_program.specs.GlobalRounds.{state}
use Rattle.win_index.specs.Ring.{IsRing}
use Rattle.node_program.specs.Bounds.{register_bounds, IsWithin}
use Rattle.win_index.specs.Arcs.{window_around, part_at}
use Rattle.win_index.specs.Windows.{IsWindow}
use Rattle.round_eval.specs.Rows.{row_after}
use Rattle.round_eval.specs.Line.{between, shrunk, line, middle_state}

-- a round on a line is a round on the row of its inner nodes, between the messages of its first and its last node
abbrev pub LinesAreRows : Type 0
LinesAreRows =
    (p : ProgramTree) (k : ℕ) (first last : List ℕ) (row : List (List ℕ))
    → shrunk p k (first ∷ (row ++ last ∷ [])) ≡ row_after p k (to_right p k first) row (to_left p k last)

-- the registers of a place of a ring after r rounds are the state that remains of the 2r+1 identifiers around it
abbrev pub Locality : Type 0
Locality =
    (p : ProgramTree) (m t r i : ℕ) (ring : List ℕ) → IsRing m t ring → r ≤ t → i < length ring
    → state p ring r i ≡ middle_state p r (window_around ring r i)

-- the state of a window after r rounds is within the bounds of the registers after r rounds
abbrev pub WindowsAreWithin : Type 0
WindowsAreWithin =
    (p : ProgramTree) (m r : ℕ) (window : List ℕ) → IsWindow (2 * r + 1) m window
    → IsWithin (middle_state p r window) (register_bounds p m r)

-- after r rounds the line of 2r+1 identifiers has one state
abbrev pub OneStateRemains : Type 0
OneStateRemains =
    (p : ProgramTree) (r : ℕ) (window : List ℕ) → length window ≡ 2 * r + 1
    → line p window r ≡ middle_state p r window ∷ []

-- without rounds the state that remains is the start state of the first identifier
abbrev pub StartStateRemains : Type 0
StartStateRemains = (p : ProgramTree) (window : List ℕ) → 0 < length window
    → middle_state p 0 window ≡ start p (slice_index window 0)

-- the state that remains of 2r+3 identifiers after r+1 rounds is made by round r from those that remain of the first,
-- the middle and the last 2r+1 of them after r rounds
abbrev pub PartsAreJoined : Type 0
PartsAreJoined =
    (p : ProgramTree) (r : ℕ) (window : List ℕ) → length window ≡ 2 * r + 3
    → middle_state p (r + 1) window
    ≡ between p r (middle_state p r (part_at r 0 window)) (middle_state p r (part_at r 1 window))
    (middle_state p r (part_at r 2 window))
