-- The invariant of the segment machine, which holds after every list of events.
use Rattle.std.specs.Prelude.{◌≡◌, ℕ, ◌+◌, ◌<◌, ◌≤◌, List, length, slice_index}
use Rattle.border_exchange.specs.declared.Side.{Side}
use Rattle.border_exchange.specs.declared.Side.TheVariants.{Rightward, Leftward}
use Rattle.border_exchange.specs.Messages.{Heading, sent_under}
use Rattle.border_exchange.specs.Segments.{RingSegment, states_of}
use Rattle.border_exchange.specs.Needs.{to_the_right, to_the_left}
use Rattle.ring_core.specs.Machine.{Machine, segment_at, border_at, segment_after}

-- segment s of the machine's ring, after r rounds
abbrev pub segment_after_rounds : Machine → ℕ → ℕ → RingSegment
segment_after_rounds m s r = record { plan = m.plan; ring = m.ring; segments = length m.segments; index = s; round = r }

-- each segment has the registers of global rounds, after as many rounds as it has done
abbrev pub HasGlobalStates : Machine → Type 0
HasGlobalStates m =
    (s : ℕ) → s < length m.segments →
    (segment_at m s).states ≡ states_of (segment_after_rounds m s (segment_at m s).round)

-- the messages sent over border b to a side
abbrev pub sent_at : Machine → ℕ → Side → List ℕ
sent_at m b Rightward = (border_at m b).rightward
sent_at m b Leftward = (border_at m b).leftward

-- in round r the last place of segment b sends over border b to the right, and the first place of the segment after it
-- sends to the left
abbrev pub heading_at : Machine → ℕ → Side → ℕ → Heading
heading_at m b Rightward r = to_the_right (segment_after_rounds m b r)
heading_at m b Leftward r = to_the_left (segment_after_rounds m (segment_after (length m.segments) b) r)

-- each message at a border is the one of global rounds, that of round k at index k
abbrev pub HasGlobalMessages : Machine → Type 0
HasGlobalMessages m =
    (b k : ℕ) (side : Side) → b < length m.segments → k < length (sent_at m b side)
    → slice_index (sent_at m b side) k ≡ sent_under (heading_at m b side k)

-- a segment and the one after it are at most one round apart
pub record AreNear (m : Machine) : Type 0 where
  pub not_ahead : (s : ℕ) → s < length m.segments
      → (segment_at m s).round ≤ (segment_at m (segment_after (length m.segments) s)).round + 1
  pub not_behind : (s : ℕ) → s < length m.segments
      → (segment_at m (segment_after (length m.segments) s)).round ≤ (segment_at m s).round + 1

-- what holds of a machine after every list of events
pub record KeepsPromises (m : Machine) : Type 0 where
  pub states : HasGlobalStates m
  pub messages : HasGlobalMessages m
  pub near : AreNear m
