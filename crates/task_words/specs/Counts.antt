-- Numbers of workers and of segments, minimum differences of channels, and the numbers of a formula.
use Rattle.std.specs.Prelude.{ℕ, ◌≤◌}
use Rattle.task_words.specs.declared.limits.TheConstants.{MAX_CHANNELS, MAX_COUNT, MAX_DISTANCE, MAX_ROUNDS}

-- 1 to MAX_COUNT
pub record IsCount (count : ℕ) : Type 0 where
  pub some : 1 ≤ count
  pub few : count ≤ MAX_COUNT

-- a minimum difference of neighbours' channels: 1 to MAX_DISTANCE
pub record IsNear (near : ℕ) : Type 0 where
  pub some : 1 ≤ near
  pub small : near ≤ MAX_DISTANCE

-- a minimum difference of the channels of places at distance two: 0 to MAX_DISTANCE
abbrev pub IsFar : ℕ → Type 0
IsFar far = far ≤ MAX_DISTANCE

-- the numbers of rounds and of channels of a formula
pub record AreFormulaNumbers (rounds channels : ℕ) : Type 0 where
  pub few_rounds : rounds ≤ MAX_ROUNDS
  pub some_channels : 1 ≤ channels
  pub few_channels : channels ≤ MAX_CHANNELS
