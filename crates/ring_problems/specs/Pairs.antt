-- Tuples by the 2t+2 identifiers that they begin with.
use Rattle.std.specs.Prelude.{◌≡◌, ◌≢◌, ℕ, ◌+◌, ◌-◌, ◌*◌, ◌<◌, Option, Some, List, take, drop, length}
use Rattle.std.specs.Prelude.{slice_get, slice_index}
use Rattle.win_index.specs.Buckets.{IsBucketStart}
use Rattle.win_index.specs.Windows.{unused}
use Rattle.channel_tables.specs.Tables.{ChannelTable}
use Rattle.ring_problems.specs.declared.pattern.Pattern.{Pattern}
use Rattle.ring_problems.specs.declared.pairs.Thirds.{Thirds}
use Rattle.ring_problems.specs.Patterns.{Fits, IsForbidden}
use Rattle.ring_problems.specs.TupleLists.{IsTuple}
use Rattle.ring_problems.specs.Problems.{IsBad}

-- no tuple that begins with these 2t+2 identifiers is bad
abbrev pub NoneBeginsWith : ChannelTable → List Pattern → List ℕ → Type 0
NoneBeginsWith t problem pair =
    (tuple : List ℕ) → IsTuple t.ids t.rounds problem tuple → take (2 * t.rounds + 1 + 1) tuple ≡ pair
    → ¬ IsBad t problem tuple

-- the third windows of the tuples that begin with these 2t+2 identifiers are these: consecutive ones, but for one,
-- which would end in the second identifier
pub record IsThirds (t : ChannelTable) (pair : List ℕ) (thirds : Thirds) : Type 0 where
  pub bucket : IsBucketStart (2 * t.rounds) t.ids (drop 2 pair) thirds.first
  pub count_is : thirds.count ≡ t.ids - 2 * t.rounds
  pub gap_is : length (unused (slice_index pair 1) (drop 2 pair)) ≡ thirds.gap

-- no pattern of the problem begins with these two channels
abbrev pub NoneBegins : List Pattern → Option ℕ → Option ℕ → Type 0
NoneBegins problem a b = (n : ℕ) (p : Pattern) → slice_get problem n ≡ Some p → Fits p.first a → Fits p.second b → ⊥

-- the channel of no window from number `start` on, `count` of them but for one, is forbidden after these two
abbrev pub NoneEnds : ChannelTable → List Pattern → Option ℕ → Option ℕ → ℕ → ℕ → ℕ → Type 0
NoneEnds t problem a b start count gap =
    (place : ℕ) → place < count → place ≢ gap → ¬ IsForbidden problem a b (Some (slice_index t.entries (start + place)))
