use Rattle.std.proofs.Common.{◌≡◌, ◌==◌, ℕ, ◌+◌, ◌-◌, ◌*◌, ◌<◌, ◌≤◌, get_or, Some, slice_get}
use Rattle.win_index.specs.Windows.{IsWindow}
use Rattle.channel_tables.specs.Tables.{windows_of}
use Rattle.nbhd_check.specs.Counts.{held_count, AreCells}
use Rattle.nbhd_check.proofs.counts.count_windows.Given as goal

-- the windows so far are counted, each in three cells, and this one is next
abbrev pub invariant-loop-number : goal.invariant-loop-number
invariant-loop-number l =
    (l.number < l.first + l.count → slice_get (windows_of l.table) l.number ≡ Some l.window)
    × IsWindow (2 * l.table.rounds + 1) l.table.ids l.window
    × AreCells (λ v x. held_count l.table l.first (l.number - l.first) x (λ channel. v == channel + 1))
    (l.table.ids + 1) l.cells
    × ((i : ℕ) → get_or l.cells i 0 ≤ 3 * (l.number - l.first))
