-- The first fault of a list that is no ring.
use Rattle.std.specs.Prelude.{◌≡◌, ℕ, ◌+◌, ◌*◌, ◌<◌, ◌≤◌, List, length, take, slice_index}
use Rattle.win_index.specs.Windows.{IsWindow}
use Rattle.win_index.specs.declared.ring.RingFault.{RingFault}
use Rattle.win_index.specs.declared.ring.RingFault.TheVariants.{TooShort, TooLong, IdTooLarge, Repeated}

-- the length of a ring for m identifiers and t rounds
pub record HasRingLength (m t : ℕ) (x : List ℕ) : Type 0 where
  pub long : 2 * t + 2 ≤ length x
  pub short : length x ≤ m

-- the first p identifiers are distinct and below m: they are a window
abbrev pub HasNoFaultBefore : ℕ → ℕ → List ℕ → Type 0
HasNoFaultBefore p m x = IsWindow p m (take p x)

-- the length is checked first, then each place in order: an identifier that is too large, then one that occurs before
abbrev pub IsFirstFault : ℕ → ℕ → List ℕ → RingFault → Type 0
IsFirstFault m t x TooShort = length x < 2 * t + 2
IsFirstFault m t x TooLong = (2 * t + 2 ≤ length x) × (m < length x)
IsFirstFault m t x (IdTooLarge place) =
    HasRingLength m t x × (place < length x) × HasNoFaultBefore place m x × (m ≤ slice_index x place)
IsFirstFault m t x (Repeated first second) =
    HasRingLength m t x × (second < length x) × HasNoFaultBefore second m x × (slice_index x second < m)
    × (first < second) × (slice_index x first ≡ slice_index x second)
