-- The messages that a segment needs and sends in its round.
use Rattle.std.specs.Prelude.{ℕ, ◌+◌, ◌-◌}
use Rattle.node_program.specs.GlobalRounds.{left_of, right_of}
use Rattle.border_exchange.specs.declared.Side.{Side}
use Rattle.border_exchange.specs.declared.Side.TheVariants.{Rightward, Leftward}
use Rattle.border_exchange.specs.Messages.{Heading}
use Rattle.border_exchange.specs.Segments.{RingSegment, first_of, places_of}

-- the message of a place to a side in the segment's round
abbrev pub in_its_round : RingSegment → ℕ → Side → Heading
in_its_round s place side = record { plan = s.plan; ring = s.ring; place = place; side = side; round = s.round }

-- from its left it needs the message of the left neighbour of its first place to the right
abbrev pub from_left : RingSegment → Heading
from_left s = in_its_round s (left_of s.ring.places (first_of s)) Rightward

-- from its right it needs the message of the right neighbour of its last place to the left
abbrev pub from_right : RingSegment → Heading
from_right s = in_its_round s (right_of s.ring.places (first_of s + places_of s - 1)) Leftward

-- its last place sends to the right, and its first place to the left
abbrev pub to_the_right : RingSegment → Heading
to_the_right s = in_its_round s (first_of s + places_of s - 1) Rightward

abbrev pub to_the_left : RingSegment → Heading
to_the_left s = in_its_round s (first_of s) Leftward
