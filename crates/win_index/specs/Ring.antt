-- Oriented rings.
use Rattle.std.specs.Prelude.{◌≢◌, ℕ, ◌+◌, ◌*◌, ◌<◌, ◌≤◌, List, length, All, AllPairs}

-- a ring for m identifiers and t rounds: 2t+2 to m distinct identifiers below m, read in a circle
pub record IsRing (m t : ℕ) (x : List ℕ) : Type 0 where
  pub long : 2 * t + 2 ≤ length x
  pub short : length x ≤ m
  pub below : All (λ id. id < m) x
  pub distinct : AllPairs (λ a b. a ≢ b) x

-- a ring as a value: the number of identifiers and of rounds that it was made for, and its identifiers from place 0 on
pub record OrientedRing : Type 0 where
  pub ids : ℕ
  pub rounds : ℕ
  pub places : List ℕ
