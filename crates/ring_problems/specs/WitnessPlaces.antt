-- The place of a witness.
use Rattle.std.specs.Prelude.{ℕ, ◌<◌, ◌≤◌, List, length}
use Rattle.win_index.specs.declared.limits.TheConstants.{MAX_IDS, MAX_ROUNDS}

-- the place is one of a ring's, and a number of rounds
pub record HasPlace (ring : List ℕ) (place : ℕ) : Type 0 where
  pub few_rounds : place ≤ MAX_ROUNDS
  pub within : place < length ring
  pub short : length ring ≤ MAX_IDS
