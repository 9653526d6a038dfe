-- The entries of a table, read in shares from the blocks of the last level.
use Rattle.std.specs.Prelude.{◌≡◌, ℕ, ◌+◌, ◌*◌, ◌<◌, List, length, min, slice_index}
use Rattle.std.specs.Int.{div_ceil}
use Rattle.lang_check.specs.Plans.{ProgramForIds}
use Rattle.round_eval.specs.BlockStates.{window_numbered}
use Rattle.win_index.specs.Blocks.{window_count}
use Rattle.table_fill.specs.ProgramTables.{window_channel}
use Rattle.win_index.specs.declared.limits.TheConstants.{BLOCK_WINDOWS}

-- the number of shares for this many windows: one for each 64 blocks that are begun, but at most `most`
abbrev pub share_count : ℕ → ℕ → ℕ
share_count most windows = min most (div_ceil windows (64 * BLOCK_WINDOWS))

-- the number of windows of the last level
abbrev pub windows_of : ProgramForIds → ℕ
windows_of plan = window_count plan.ids (length plan.program.steps)

-- the channels of the windows of the last level from number `first` on, up to number `end`
pub record AreEntries (plan : ProgramForIds) (first end : ℕ) (entries : List ℕ) : Type 0 where
  pub size : first + length entries ≡ end
  pub each : (i : ℕ) → i < length entries
      → (slice_index entries i
      ≡ window_channel plan.program (window_numbered plan.ids (length plan.program.steps) (first + i)))
      × (slice_index entries i < plan.program.channels)
