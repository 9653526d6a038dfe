-- The witness of a no: the ring of the least bad tuple.
use Rattle.std.specs.Prelude.{◌≡◌, ℕ, ◌+◌, List, Some}
use Rattle.win_index.specs.Arcs.{window_around}
use Rattle.channel_tables.specs.Tables.{ChannelTable, channel_of}
use Rattle.ring_problems.specs.declared.pattern.Pattern.{Pattern}
use Rattle.ring_problems.specs.Patterns.{IsFirstMatch}
use Rattle.ring_problems.specs.TupleLists.{ring_of}
use Rattle.ring_problems.specs.Problems.{IsLeastBad}

-- the ring is that of the least bad tuple, the place is t for t rounds, the channels are those of this place and of
-- the two places after it, around the ring, and the pattern is the first one that they match
pub record IsWitness (t : ChannelTable) (problem : List Pattern) (ring : List ℕ) (place : ℕ) (channels : ℕ × ℕ × ℕ)
    (pattern : Pattern) : Type 0 where
  pub number : ℕ
  pub tuple : List ℕ
  pub least : IsLeastBad t problem 0 number tuple
  pub ring_is : ring ≡ ring_of tuple
  pub place_is : place ≡ t.rounds
  pub first_channel : channel_of t (window_around ring t.rounds (place + 0)) ≡ Some channels.0
  pub second_channel : channel_of t (window_around ring t.rounds (place + 1)) ≡ Some channels.1
  pub third_channel : channel_of t (window_around ring t.rounds (place + 2)) ≡ Some channels.2
  pub pattern_is : IsFirstMatch problem (Some channels.0) (Some channels.1) (Some channels.2) pattern
