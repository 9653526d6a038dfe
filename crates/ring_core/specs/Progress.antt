-- The progress of the parts of a machine, as numbers of rounds and of messages alone. All registers and messages follow
-- from these, by global rounds.
use Rattle.std.specs.Prelude.{◌≡◌, ℕ, ◌+◌, ◌<◌, ◌≤◌, List, [], map, length, slice_get, slice_index_or, Some}
use Rattle.std.specs.List.{range_with_len}
use Rattle.node_program.specs.Term.{Identifier}
use Rattle.lang_check.specs.Plans.{ProgramForIds}
use Rattle.win_index.specs.Ring.{OrientedRing}
use Rattle.round_eval.specs.Shapes.{IsOfShape}
use Rattle.border_exchange.specs.declared.Side.{Side}
use Rattle.border_exchange.specs.declared.Side.TheVariants.{Rightward, Leftward}
use Rattle.border_exchange.specs.declared.message.Msg.{Msg}
use Rattle.border_exchange.specs.Messages.{Heading, sent_under}
use Rattle.border_exchange.specs.Headings.{heading_of}
use Rattle.border_exchange.specs.Segments.{RingSegment, states_of}
use Rattle.border_exchange.specs.Needs.{from_left, from_right, to_the_right, to_the_left}
use Rattle.ring_core.specs.declared.event.RingEvent.{RingEvent}
use Rattle.ring_core.specs.declared.event.RingEvent.TheVariants.{SendRight, SendLeft}
use Rattle.ring_core.specs.Machine.{SegmentState, BorderState, Machine, left_border, right_border}
use Rattle.ring_core.specs.Machine.{border_before, segment_after}

-- a segment, and the numbers of its messages to the right and to the left
pub record Progress : Type 0 where
  pub segment : RingSegment
  pub rightward : ℕ
  pub leftward : ℕ

-- the segment after r rounds
abbrev pub at_round : RingSegment → ℕ → RingSegment
at_round a r = record a { round = r }

-- message k of the list has the heading of round k
abbrev pub AreInOrder : (ℕ → Heading) → List Msg → Type 0
AreInOrder heading messages = (k : ℕ) (m : Msg) → slice_get messages k ≡ Some m → heading_of m ≡ heading k

-- the message to a side that a segment sends, and that it needs
abbrev pub sent_to : Side → RingSegment → Heading
sent_to Rightward = to_the_right
sent_to Leftward = to_the_left

abbrev pub needed_to : Side → RingSegment → Heading
needed_to Rightward = from_left
needed_to Leftward = from_right

-- the segment, of g, whose messages to a side come to segment s
abbrev pub sender_of : ℕ → ℕ → Side → ℕ
sender_of g s Rightward = border_before g s
sender_of g s Leftward = segment_after g s

-- the number of messages to a side that came to segment s
abbrev pub came_to : Machine → ℕ → Side → ℕ
came_to m s Rightward = length (left_border m s).rightward
came_to m s Leftward = length (right_border m s).leftward

-- the messages of a segment to the right in each round, and to the left
abbrev pub rightward_headings : RingSegment → ℕ → Heading
rightward_headings a r = to_the_right (at_round a r)

abbrev pub leftward_headings : RingSegment → ℕ → Heading
leftward_headings a r = to_the_left (at_round a r)

-- its messages to a side
abbrev pub headings_of : RingSegment → Side → ℕ → Heading
headings_of a side r = sent_to side (at_round a r)

-- the number of a part's messages to a side, and the part after one more
abbrev pub sent_by : Progress → Side → ℕ
sent_by p Rightward = p.rightward
sent_by p Leftward = p.leftward

abbrev pub after_sending : Progress → Side → Progress
after_sending p Rightward = record p { rightward = p.rightward + 1 }
after_sending p Leftward = record p { leftward = p.leftward + 1 }

-- the event that a segment sends to a side
abbrev pub sending : Side → ℕ → RingEvent
sending Rightward s = SendRight s
sending Leftward s = SendLeft s

-- the invariant of a part's messages
pub record KeepsMessages (a : RingSegment) (rightward leftward : List Msg) : Type 0 where
  pub rightward_are : AreInOrder (rightward_headings a) rightward
  pub leftward_are : AreInOrder (leftward_headings a) leftward

-- the parts of a ring that runs a plan, in the ring's order
pub record Parts : Type 0 where
  pub plan : ProgramForIds
  pub ring : OrientedRing
  pub items : List Progress

-- part s. A part that does not exist is of no ring, and has sent nothing
abbrev pub no_part : Progress
no_part =
    record {
      segment = record {
        plan = record { program = record { channels = 0; start = []; steps = []; finish = Identifier }; ids = 0 };
        ring = record { ids = 0; rounds = 0; places = [] };
        segments = 0;
        index = 0;
        round = 0;
      };
      rightward = 0;
      leftward = 0;
    }

abbrev pub part_at : Parts → ℕ → Progress
part_at v s = slice_index_or v.items s no_part

-- the number of rounds that part s has done
abbrev pub round_at : Parts → ℕ → ℕ
round_at v s = (part_at v s).segment.round

-- a segment has sent to a side in each round that it has done, and in no other but its next one
pub record IsInStep (a : RingSegment) (sent : ℕ) : Type 0 where
  pub low : a.round ≤ sent
  pub high : sent ≤ a.round + 1
  pub end : sent ≤ length a.plan.program.steps

-- part s of g before the first round
abbrev pub opening_part : ProgramForIds → OrientedRing → ℕ → ℕ → Progress
opening_part plan ring g s =
    record {
      segment = record { plan = plan; ring = ring; segments = g; index = s; round = 0 };
      rightward = 0;
      leftward = 0;
    }

-- the ring has the plan's shape, and at least as many places as segments
pub record CanBeCut (plan : ProgramForIds) (ring : OrientedRing) (segments : ℕ) : Type 0 where
  pub shape : IsOfShape ring plan
  pub few : segments ≤ length ring.places

-- part s is segment s, and has done no round in which its neighbours had not sent
pub record FitTogether (v : Parts) : Type 0 where
  pub some : 0 < length v.items
  pub few : length v.items ≤ length v.ring.places
  pub segments_are : (s : ℕ) → s < length v.items
      → (part_at v s).segment
      ≡ record { plan = v.plan; ring = v.ring; segments = length v.items; index = s; round = round_at v s }
  pub right_in_step : (s : ℕ) → s < length v.items → IsInStep (part_at v s).segment (part_at v s).rightward
  pub left_in_step : (s : ℕ) → s < length v.items → IsInStep (part_at v s).segment (part_at v s).leftward
  pub from_left : (s : ℕ) → s < length v.items → round_at v s ≤ (part_at v (border_before (length v.items) s)).rightward
  pub from_right : (s : ℕ) → s < length v.items → round_at v s ≤ (part_at v (segment_after (length v.items) s)).leftward

-- the machine of these parts
abbrev pub segment_state : RingSegment → SegmentState
segment_state a = record { round = a.round; states = states_of a }

abbrev pub values_under : (ℕ → Heading) → ℕ → List ℕ
values_under heading count = map (λ k. sent_under (heading k)) (range_with_len 0 count)

abbrev pub rightward_values : Progress → List ℕ
rightward_values p = values_under (rightward_headings p.segment) p.rightward

abbrev pub leftward_values : Progress → List ℕ
leftward_values p = values_under (leftward_headings p.segment) p.leftward

abbrev pub border_state : Parts → ℕ → BorderState
border_state v b =
    record {
      rightward = rightward_values (part_at v b);
      leftward = leftward_values (part_at v (segment_after (length v.items) b));
    }

abbrev pub machine_of : Parts → Machine
machine_of v =
    record {
      plan = v.plan;
      ring = v.ring;
      segments = map (λ p. segment_state p.segment) v.items;
      borders = map (border_state v) (range_with_len 0 (length v.items));
    }

-- a segment may send to a side to which it has sent so many messages
pub record MaySend (a : RingSegment) (sent : ℕ) : Type 0 where
  pub unfinished : a.round < length a.plan.program.steps
  pub unsent : sent ≤ a.round
