-- Separation: the minimum differences of the channels of neighbours and of places at distance two, the labellings
-- L(p,q) of Griggs and Yeh (1992).
use Rattle.std.specs.Prelude.{◌≡◌, ℕ, ◌+◌, ◌-◌, ◌*◌, ◌<◌, ◌≤◌, ◌⊎◌, min, Option, Some, List, length, All, slice_get}
use Rattle.std.specs.Int.{abs_diff}
use Rattle.win_index.specs.Ring.{IsRing}
use Rattle.win_index.specs.Arcs.{window_around, part_at}
use Rattle.win_index.specs.Falling.{falling}
use Rattle.win_index.specs.Windows.{windows}
use Rattle.channel_tables.specs.Tables.{ChannelTable, channel_of}
use Rattle.channel_tables.specs.declared.separation.Separation.{Separation}

-- by how many identifiers a tuple is longer than a window: 1 if far is 0, else 2
abbrev pub extra : Separation → ℕ
extra s = 1 + min 1 s.far

-- both windows have channels, and these differ by less than the distance
abbrev pub AreClose : ℕ → Option ℕ → Option ℕ → Type 0
AreClose distance (Some c) (Some d) = abs_diff c d < distance
AreClose distance c d = ⊥

-- both windows have channels, and these differ by at least the distance
abbrev pub AreApart : ℕ → Option ℕ → Option ℕ → Type 0
AreApart distance (Some c) (Some d) = distance ≤ abs_diff c d
AreApart distance c d = ⊥

-- the tuples of a table in order: all lists of 2t+2 distinct identifiers if far is 0, else of 2t+3
abbrev pub tuples : ChannelTable → Separation → List (List ℕ)
tuples t s = windows (2 * t.rounds + 1 + extra s) t.ids

-- the number of tuples that begin with one window
abbrev pub bucket_len : ChannelTable → Separation → ℕ
bucket_len t s = falling (t.ids - (2 * t.rounds + 1)) (extra s)

-- a tuple is bad if the channels of its first and its second window are closer than near, or those of its first and its
-- third window closer than far; if far is 0, no two channels are that close
unfoldable pub IsBad : ChannelTable → Separation → List ℕ → Type 0
IsBad t s tuple =
    let channel_at : ℕ → Option ℕ = λ step. channel_of t (part_at t.rounds step tuple) in
    AreClose s.near (channel_at 0) (channel_at 1) ⊎ AreClose s.far (channel_at 0) (channel_at 2)

-- no tuple is bad
abbrev pub IsApart : ChannelTable → Separation → Type 0
IsApart t s = All (λ tuple. ¬ IsBad t s tuple) (tuples t s)

-- on each ring with at least as many nodes as a tuple, the channels of neighbours are apart by near, and those of
-- places at distance two by far; if far is 0, any two channels are that far apart
abbrev pub IsApartEverywhere : ChannelTable → Separation → Type 0
IsApartEverywhere t s =
    (ring : List ℕ) (place : ℕ) → IsRing t.ids t.rounds ring → 2 * t.rounds + 1 + extra s ≤ length ring
    → place < length ring
    → let channel_at : ℕ → Option ℕ = λ step. channel_of t (window_around ring t.rounds (place + step)) in
    AreApart s.near (channel_of t (window_around ring t.rounds place)) (channel_at 1)
    × AreApart s.far (channel_of t (window_around ring t.rounds place)) (channel_at 2)

-- no tuple with a number from low on and below high is bad
abbrev pub NoneIsBad : ChannelTable → Separation → ℕ → ℕ → Type 0
NoneIsBad t s low high =
    (n : ℕ) (tuple : List ℕ) → low ≤ n → n < high → slice_get (tuples t s) n ≡ Some tuple → ¬ IsBad t s tuple

-- the tuple with the number n is bad, and none before it from low on is
pub record IsLeastBad (t : ChannelTable) (s : Separation) (low n : ℕ) (tuple : List ℕ) : Type 0 where
  pub from_low : low ≤ n
  pub item : slice_get (tuples t s) n ≡ Some tuple
  pub bad : IsBad t s tuple
  pub least : NoneIsBad t s low n
