-- The number of nodes of a row.
use Rattle.std.specs.Prelude.{ℕ, ◌≤◌}
use Rattle.win_index.specs.declared.limits.TheConstants.{MAX_IDS}

-- 1 to MAX_IDS
pub record IsNodeCount (nodes : ℕ) : Type 0 where
  pub some : 1 ≤ nodes
  pub few : nodes ≤ MAX_IDS
