-- Tables that solve a problem, and the tuples of those that do not.
use Rattle.std.specs.Prelude.{◌≡◌, ℕ, ◌+◌, ◌<◌, ◌≤◌, Option, Some, MatchOption, List, length, All, slice_get}
use Rattle.win_index.specs.Ring.{IsRing}
use Rattle.win_index.specs.Arcs.{window_around, part_at}
use Rattle.channel_tables.specs.Tables.{ChannelTable, channel_of}
use Rattle.ring_problems.specs.declared.pattern.Pattern.{Pattern}
use Rattle.ring_problems.specs.Patterns.{IsForbidden}
use Rattle.ring_problems.specs.TupleLists.{tuples_below}

-- the tuples of a table in order
abbrev pub tuples : ChannelTable → List Pattern → List (List ℕ)
tuples t problem = tuples_below t.ids t.rounds problem

-- a tuple is bad if a pattern matches the channels of its first, its second and its third window
unfoldable pub IsBad : ChannelTable → List Pattern → List ℕ → Type 0
IsBad t problem tuple =
    let channel_at : ℕ → Option ℕ = λ step. channel_of t (part_at t.rounds step tuple) in
    IsForbidden problem (channel_at 0) (channel_at 1) (channel_at 2)

-- no tuple is bad
abbrev pub IsSolved : ChannelTable → List Pattern → Type 0
IsSolved t problem = All (λ tuple. ¬ IsBad t problem tuple) (tuples t problem)

-- a ring breaks a problem at a place: a pattern matches the channels of this place and of the two after it
abbrev pub Breaks : ChannelTable → List Pattern → List ℕ → ℕ → Type 0
Breaks t problem ring place =
    let channel_at : ℕ → Option ℕ = λ step. channel_of t (window_around ring t.rounds (place + step)) in
    IsForbidden problem (channel_at 0) (channel_at 1) (channel_at 2)

-- no ring breaks the problem at any place
abbrev pub IsSolvedEverywhere : ChannelTable → List Pattern → Type 0
IsSolvedEverywhere t problem =
    (ring : List ℕ) (place : ℕ) → IsRing t.ids t.rounds ring → place < length ring → ¬ Breaks t problem ring place

-- no tuple with a number from low on and below high is bad
abbrev pub NoneIsBad : ChannelTable → List Pattern → ℕ → ℕ → Type 0
NoneIsBad t problem low high =
    (n : ℕ) (tuple : List ℕ) → low ≤ n → n < high → slice_get (tuples t problem) n ≡ Some tuple
    → ¬ IsBad t problem tuple

-- the tuple with the number n is bad, and none before it from low on is
pub record IsLeastBad (t : ChannelTable) (problem : List Pattern) (low n : ℕ) (tuple : List ℕ) : Type 0 where
  pub from_low : low ≤ n
  pub item : slice_get (tuples t problem) n ≡ Some tuple
  pub bad : IsBad t problem tuple
  pub least : NoneIsBad t problem low n

-- the result is the least number of a bad tuple from low on and below high, or None if none of these is bad
abbrev pub IsLeastIn : ChannelTable → List Pattern → ℕ → ℕ → Option ℕ → Type 0
IsLeastIn t problem low high found =
    MatchOption found (NoneIsBad t problem low high) (λ n. (n < high)
    × ((tuple : List ℕ) × IsLeastBad t problem low n tuple))
