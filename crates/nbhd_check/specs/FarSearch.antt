-- The search for windows that begin a tuple with a close third window, family by family.
use Rattle.std.specs.Prelude.{◌≡◌, ℕ, ◌+◌, ◌-◌, ◌*◌, ◌<◌, ◌≤◌, List, [], ◌∷◌, ◌++◌, length, take, drop, slice_get, Some}
use Rattle.win_index.specs.Windows.{IsWindow}
use Rattle.win_index.specs.Buckets.{IsAtPlace, IsBucketStart}
use Rattle.win_index.specs.declared.series.BucketPlaces.{BucketPlaces}
use Rattle.channel_tables.specs.Tables.{ChannelTable, windows_of}
use Rattle.channel_tables.specs.declared.separation.Separation.{Separation}
use Rattle.nbhd_check.specs.Counts.{shared_lists}
use Rattle.nbhd_check.specs.declared.far_counts.PairNumbers.{PairNumbers}
use Rattle.nbhd_check.specs.Buckets.{AreFree, BeginsBadTuple, BeginsFarTuple}

-- Distance two counts, and none of the first `most` windows begins a tuple whose second window is too close.
pub record IsFarSearch (t : ChannelTable) (s : Separation) (most : ℕ) : Type 0 where
  pub some : (1 ≤ t.rounds) × (1 ≤ s.far)
  pub few : most ≤ length (windows_of t)
  pub near : AreFree t (BeginsBadTuple t (record { near = s.near; far = 0 })) 0 most

-- none of the windows below this number that pass begins a tuple whose third window is closer than the distance
abbrev pub AreFarFreeIn : ChannelTable → ℕ → ℕ → (List ℕ → Type 0) → Type 0
AreFarFreeIn t distance count passes =
    (number : ℕ) (window : List ℕ) → number < count → slice_get (windows_of t) number ≡ Some window → passes window
    → ¬ BeginsFarTuple t distance window

-- the family of the window's third windows has a number from low on and below high
abbrev pub HasFamilyIn : ChannelTable → ℕ → ℕ → List ℕ → Type 0
HasFamilyIn t low high window =
    (family : ℕ) × (low ≤ family) × (family < high) × (slice_get (shared_lists t) family ≡ Some (drop 2 window))

-- the window has this number and its suffix this position, and the third windows after the window at position p of its
-- bucket have family first + p
pub record IsAtFamily (t : ChannelTable) (number : ℕ) (window : List ℕ) (first : ℕ) (places : BucketPlaces)
    (place : ℕ) : Type 0 where
  pub item : slice_get (windows_of t) number ≡ Some window
  pub at_place : IsAtPlace (2 * (t.rounds - 1) + 1) t.ids places window place
  pub starts : IsBucketStart (2 * (t.rounds - 1)) t.ids (drop 2 (take (2 * t.rounds) window)) first

-- There are second identifiers from low on and below end, and each of them, after this first one and before the list z,
-- makes a window.
pub record AreSeconds (t : ChannelTable) (z : List ℕ) (first low end : ℕ) : Type 0 where
  pub some : low < end
  pub windows : (second : ℕ) → low ≤ second → second < end → IsWindow (2 * t.rounds + 1) t.ids (first ∷ second ∷ z)

-- three windows have these numbers: the two identifiers a and b followed by the list z, z followed by a and b, and z
-- followed by b and a
pub record ArePairNumbers (t : ChannelTable) (z : List ℕ) (a b : ℕ) (numbers : PairNumbers) : Type 0 where
  pub before : slice_get (windows_of t) numbers.before ≡ Some (a ∷ b ∷ z)
  pub after : slice_get (windows_of t) numbers.after ≡ Some (z ++ a ∷ b ∷ [])
  pub turned : slice_get (windows_of t) numbers.turned ≡ Some (z ++ b ∷ a ∷ [])
