-- The statements of the laws of this crate, one definition each.
use Rattle.std.specs.Prelude.{◌≡◌, ℕ, ◌+◌, ◌*◌, ◌<◌, List, length, Some}
use Rattle.node_program.specs.GlobalRounds.{channel_at}
use Rattle.win_index.specs.Ring.{IsRing}
use Rattle.node_program.specs.Term.{ProgramTree}
use Rattle.win_index.specs.Arcs.{window_around}
use Rattle.win_index.specs.Windows.{IsWindow}
use Rattle.table_fill.specs.ProgramTables.{table_of, window_channel}
use Rattle.channel_tables.specs.Tables.{IsTable, channel_of}
use Rattle.lang_check.specs.Acceptance.{IsAccepted}
use Rattle.node_program.specs.Limits.{IsWithinLimits}

-- on every ring, the channel of a program's table at the window of a place is the channel of that place after all
-- rounds
abbrev pub TableHasTheChannelsOfRounds : Type 0
TableHasTheChannelsOfRounds =
    (p : ProgramTree) (m : ℕ) (ring : List ℕ) (place : ℕ) → IsRing m (length p.steps) ring → place < length ring
    → channel_of (table_of p m) (window_around ring (length p.steps) place) ≡ Some (channel_at p ring place)

-- the channel of a program's table at a window is that of the state that the window leaves after all rounds
abbrev pub TableHasTheChannelsOfWindows : Type 0
TableHasTheChannelsOfWindows =
    (p : ProgramTree) (m : ℕ) (window : List ℕ) → IsWindow (2 * length p.steps + 1) m window
    → channel_of (table_of p m) window ≡ Some (window_channel p window)

-- the table of an accepted program is a table: each of its channels is below the number of channels
abbrev pub ProgramTablesAreTables : Type 0
ProgramTablesAreTables = (p : ProgramTree) (m : ℕ) → IsWithinLimits p → IsAccepted m p → IsTable (table_of p m)
