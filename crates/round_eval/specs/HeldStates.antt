-- The invariant of blocks.
use Rattle.std.specs.Prelude.{◌≡◌, ℕ, ◌*◌, ◌<◌, ◌≤◌, List, map, length, slice_index}
use Rattle.std.specs.List.{range_with_len}
use Rattle.win_index.specs.Blocks.{block_count}
use Rattle.lang_check.specs.Plans.{ProgramForIds}
use Rattle.node_program.specs.Node.{to_left, to_right}
use Rattle.round_eval.specs.Rows.{rows}
use Rattle.round_eval.specs.BlockStates.{block_len, block_state}

-- the states of the first `count` windows of block b of level r
abbrev pub first_states : ProgramForIds → ℕ → ℕ → ℕ → List (List ℕ)
first_states plan r b count = map (block_state plan r b) (range_with_len 0 count)

-- item i of the list is the message of a node that holds the state of window i of block b of level r
abbrev pub AreSent : (List ℕ → ℕ) → ProgramForIds → ℕ → ℕ → List ℕ → Type 0
AreSent send plan r b list = (i : ℕ) → i < block_len plan.ids r b → slice_index list i ≡ send (block_state plan r b i)

-- below the last level: the messages of the windows of block b of level r in the next round, to the left and to the
-- right
pub record HoldsSent (plan : ProgramForIds) (r b : ℕ) (lefts rights : List ℕ) : Type 0 where
  pub left_size : r < length plan.program.steps → block_len plan.ids r b ≤ length lefts
  pub right_size : r < length plan.program.steps → block_len plan.ids r b ≤ length rights
  pub left : r < length plan.program.steps → AreSent (to_left plan.program r) plan r b lefts
  pub right : r < length plan.program.steps → AreSent (to_right plan.program r) plan r b rights

-- block b of level r is one of the plan's, the cells hold the states of its windows, row by row, and the lists their
-- messages
pub record HoldsStates (plan : ProgramForIds) (r b len : ℕ) (cells lefts rights : List ℕ) : Type 0 where
  pub level : r ≤ length plan.program.steps
  pub number : b < block_count plan.ids r
  pub size : len ≡ block_len plan.ids r b
  pub cells_size : length cells ≡ len * length plan.program.start
  pub states : rows (length plan.program.start) len cells ≡ first_states plan r b len
  pub sent : HoldsSent plan r b lefts rights
