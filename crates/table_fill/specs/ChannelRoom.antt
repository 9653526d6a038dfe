-- Scratch for reading the channels of a block's windows.
use Rattle.std.specs.Prelude.{◌≡◌, ℕ, ◌<◌, ◌≤◌, [], length, slice_index_or}
use Rattle.node_program.specs.Term.{terms}
use Rattle.win_index.specs.declared.limits.TheConstants.{BLOCK_WINDOWS}
use Rattle.lang_check.specs.Plans.{ProgramForIds}
use Rattle.unroll.specs.Room.{Room}
use Rattle.unroll.specs.States.{NodeStates, HasSize}
use Rattle.column_machine.specs.StackNeed.{most_columns}
use Rattle.round_eval.specs.BlockStates.{MadeBlock, block_len, block_state}
use Rattle.table_fill.specs.declared.entry_columns.EntryColumns.{EntryColumns}

-- columns to evaluate the program of the plan at BLOCK_WINDOWS windows
pub record IsWorkRoom (plan : ProgramForIds) (work : Room) : Type 0 where
  pub room : most_columns (terms plan.program) ≤ work.columns
  pub width : work.width ≡ BLOCK_WINDOWS

-- columns that hold the states of a block
pub record HoldStates (block : MadeBlock) (states : NodeStates) : Type 0 where
  pub wide : HasSize BLOCK_WINDOWS (length block.plan.program.start) states
  pub each : (i : ℕ) → i < block_len block.plan.ids block.level block.number
      → slice_index_or states.states i [] ≡ block_state block.plan block.level block.number i

-- scratch for the states of a block of the plan and for their channels
pub record IsChannelRoom (plan : ProgramForIds) (scratch : EntryColumns) : Type 0 where
  pub work : IsWorkRoom plan scratch.work
  pub states_wide : HasSize BLOCK_WINDOWS (length plan.program.start) scratch.states
  pub channels_wide : length scratch.channels.items ≡ BLOCK_WINDOWS
