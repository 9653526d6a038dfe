-- What a segment has of its two borders in a round: its seats, and the messages that it takes.
use Rattle.std.specs.Prelude.{◌≡◌, ◌<◌, ℕ, length}
use Rattle.node_program.specs.declared.limits.TheConstants.{MAX_ROUNDS}
use Rattle.border_exchange.specs.SeatState.{SeatState}
use Rattle.border_exchange.specs.declared.Side.TheVariants.{Rightward, Leftward}
use Rattle.border_exchange.specs.Messages.{Heading}
use Rattle.border_exchange.specs.Segments.{RingSegment}

-- the seats of a segment at the borders before and after it: it puts to the left on the one and to the right on the
-- other, and has put on both in each round that it has done
pub record AreSeatsOf (s : RingSegment) (before after : SeatState) : Type 0 where
  pub left : before ≡ record { side = Leftward; puts = s.round }
  pub right : after ≡ record { side = Rightward; puts = s.round }

-- the segment has a round to do, with these seats
pub record HasRoundToDo (s : RingSegment) (before after : SeatState) : Type 0 where
  pub more : s.round < length s.plan.program.steps
  pub few : s.round < MAX_ROUNDS
  pub seats : AreSeatsOf s before after

-- the messages of this round: one to the right, from the left neighbour, and one to the left, from the right neighbour
pub record AreOfRound (round : ℕ) (from_left from_right : Heading) : Type 0 where
  pub rightward : from_left.side ≡ Rightward
  pub leftward : from_right.side ≡ Leftward
  pub left_round : from_left.round ≡ round
  pub right_round : from_right.round ≡ round
