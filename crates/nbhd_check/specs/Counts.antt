-- Counts of third windows: those that begin with the same identifiers, all but two, have one family of numbers.
use Rattle.std.specs.Prelude.{◌≡◌, ◌==◌, ℕ, ◌+◌, ◌-◌, ◌*◌, ◌<◌, ◌≤◌, Bool, ◌&&◌, ◌||◌, nat_lt, List, [], length, take}
use Rattle.std.specs.Prelude.{slice_get, slice_index, slice_index_or, count_by, All, Some}
use Rattle.std.specs.List.{range_with_len}
use Rattle.win_index.specs.Windows.{windows, IsWindow}
use Rattle.channel_tables.specs.Tables.{ChannelTable, windows_of}
use Rattle.nbhd_check.specs.declared.counts.Counts.{Counts}

-- the number of identifiers that the first and the third window of a tuple share, for one round or more: the length of
-- a window one level below
abbrev pub shared_len : ChannelTable → ℕ
shared_len t = 2 * (t.rounds - 1) + 1

-- the lists that a first and a third window can share, in order; each has one family of third windows
abbrev pub shared_lists : ChannelTable → List (List ℕ)
shared_lists t = windows (shared_len t) t.ids

-- whether the window with this number holds the identifier among its last two; the number of identifiers, which is not
-- an identifier, counts as held by every window
abbrev pub is_held : ChannelTable → ℕ → ℕ → Bool
is_held t x number =
    (x == t.ids) || ((x == slice_index (slice_index_or (windows_of t) number []) (shared_len t))
    || (x == slice_index (slice_index_or (windows_of t) number []) (shared_len t + 1)))

-- the number of windows among `count` from number first on that hold x and whose channel passes
abbrev pub held_count : ChannelTable → ℕ → ℕ → ℕ → (ℕ → Bool) → ℕ
held_count t first count x passes =
    count_by (λ number. passes (slice_index t.entries number) && is_held t x number) (range_with_len first count)

-- cell x of row v has the value of v and x
abbrev pub AreCells : (ℕ → ℕ → ℕ) → ℕ → List ℕ → Type 0
AreCells value wide cells = (v x : ℕ) → x < wide → (v + 1) * wide ≤ length cells
    → slice_index cells (v * wide + x) ≡ value v x

-- cell x of row v is the number of windows of the family that have a channel below v and hold x
abbrev pub AreSums : ChannelTable → ℕ → ℕ → List ℕ → Type 0
AreSums t first count sums =
    AreCells (λ v x. held_count t first count x (λ channel. nat_lt channel v)) (t.ids + 1) sums

-- the windows that begin with the list z of identifiers are exactly those with the `count` numbers from first on
pub record IsFamily (t : ChannelTable) (z : List ℕ) (first count : ℕ) : Type 0 where
  pub within : first + count ≤ length (windows_of t)
  pub stands : (window : List ℕ) → IsWindow (2 * t.rounds + 1) t.ids window → take (shared_len t) window ≡ z
      → (number : ℕ) × (first ≤ number) × (number < first + count) × (slice_get (windows_of t) number ≡ Some window)
  pub begins : (number : ℕ) (window : List ℕ) → first ≤ number → number < first + count
      → slice_get (windows_of t) number ≡ Some window
      → take (shared_len t) window ≡ z

-- the counts have a row for each limit up to one that is above all channels, and a cell for each identifier and one
-- more
pub record CountsFit (t : ChannelTable) (counts : Counts) : Type 0 where
  pub room : length counts.cells.items ≡ (counts.limit + 1) * (t.ids + 1)
  pub limit : All (λ channel. channel < counts.limit) t.entries

-- the sums are those of the family of z
abbrev pub AreCountsOf : ChannelTable → List ℕ → Counts → Type 0
AreCountsOf t z counts = (first : ℕ)
    × ((count : ℕ) × (IsFamily t z first count × AreSums t first count counts.cells.items))

-- the number of windows of a family, those that begin with one of these lists
abbrev pub family_len : ChannelTable → ℕ
family_len t = (t.ids - shared_len t) * (t.ids - shared_len t - 1)
