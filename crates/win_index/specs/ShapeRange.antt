-- The numbers of identifiers and rounds that are a shape.
use Rattle.std.specs.Prelude.{ℕ, ◌+◌, ◌*◌, ◌≤◌, length}
use Rattle.win_index.specs.declared.limits.TheConstants.{MAX_EXTRA, MAX_IDS, MAX_WINDOWS}
use Rattle.win_index.specs.Windows.{windows}

-- m identifiers are enough for a ring of 2t+2 nodes, and at most MAX_IDS
pub record HasIds (m t : ℕ) : Type 0 where
  pub enough : 2 * t + 2 ≤ m
  pub few : m ≤ MAX_IDS

-- there are at most MAX_WINDOWS windows of level t, which are those of length 2t+1
abbrev pub HasFewWindows : ℕ → ℕ → Type 0
HasFewWindows m t = length (windows (2 * t + 1) m) ≤ MAX_WINDOWS

-- m identifiers and t rounds make a shape
pub record IsShape (m t : ℕ) : Type 0 where
  pub ids : HasIds m t
  pub few_windows : HasFewWindows m t

-- the identifiers that a tuple has beyond those of a window: 1 or 2
pub record IsExtra (extra : ℕ) : Type 0 where
  pub some : 1 ≤ extra
  pub few : extra ≤ MAX_EXTRA
