-- Orders of the numbers below a bound: a window, and then the numbers that it lacks. No public contract cites this
-- file.
use Rattle.std.specs.Prelude.{◌≡◌, ℕ, ◌+◌, ◌<◌, ◌≤◌, List, length, take, drop, slice_index, slice_get, Some}
use Rattle.win_index.specs.Windows.{unused, windows, IsWindow}
use Rattle.win_index.specs.declared.limits.TheConstants.{MAX_IDS}

-- the numbers below m in an order: a window of length k, and then the numbers that it lacks, in rising order
pub record IsOrder (k m : ℕ) (order : List ℕ) : Type 0 where
  pub size : length order ≡ m
  pub window : IsWindow k m (take k order)
  pub rest : drop k order ≡ unused m (take k order)

-- the number of later is so much higher than the window's, if there is a window with that number
abbrev pub IsLater : ℕ → ℕ → ℕ → List ℕ → List ℕ → Type 0
IsLater count k m window later =
    (n : ℕ) → slice_get (windows k m) n ≡ Some window → n + count < length (windows k m) →
    slice_get (windows k m) (n + count) ≡ Some later

-- next has the number after the window's, if there is a window with that number
abbrev pub IsFollowedBy : ℕ → ℕ → List ℕ → List ℕ → Type 0
IsFollowedBy = IsLater 1

-- an order whose window is the next one, if there is a next one
pub record IsStep (k m : ℕ) (old new : List ℕ) : Type 0 where
  pub order : IsOrder k m new
  pub next : IsFollowedBy k m (take k old) (take k new)

-- The place behind a window of length k+1 of the first number larger than its last one. It is the length of the order
-- if there is none.
abbrev pub place_of : ℕ → List ℕ → ℕ
place_of k order = k + 1 + length (unused (slice_index order k) (take k order))

-- the places for each of the first k numbers of an order
abbrev pub ArePlaces : ℕ → List ℕ → List ℕ → Type 0
ArePlaces k order places = (j : ℕ) → j < k → slice_index places j ≡ place_of j order

-- an order of at most MAX_IDS numbers that begins with a window of length k, and the places for the window's numbers
pub record IsPlaced (k : ℕ) (order places : List ℕ) : Type 0 where
  pub within : k ≤ length order
  pub room : k ≤ length places
  pub few : length order ≤ MAX_IDS
  pub ordered : IsOrder k (length order) order
  pub placed : ArePlaces k order places
