-- Blocks: the windows of a level, BLOCK_WINDOWS at a time. The last block of a level may hold fewer.
use Rattle.std.specs.Prelude.{ℕ, ◌+◌, ◌*◌, ◌/◌, ◌%◌, min, length}
use Rattle.win_index.specs.Windows.{windows}
use Rattle.win_index.specs.declared.limits.TheConstants.{BLOCK_WINDOWS}

-- the number of windows of level r
abbrev pub window_count : ℕ → ℕ → ℕ
window_count m r = length (windows (2 * r + 1) m)

-- the number of blocks of level r: the full ones, and one more if windows are left
abbrev pub block_count : ℕ → ℕ → ℕ
block_count m r = window_count m r / BLOCK_WINDOWS + min 1 (window_count m r % BLOCK_WINDOWS)
