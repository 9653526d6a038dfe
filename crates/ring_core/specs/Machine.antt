-- The segment machine: the segments of a ring send messages over the borders between them, and advance by the messages
-- that came, one event after another.
use Rattle.std.specs.Prelude.{◌≡◌, ℕ, ◌+◌, ◌-◌, ◌%◌, ◌<◌, ◌≤◌, ◌⊎◌, List, [], ◌∷◌, ◌++◌, map, length, replicate}
use Rattle.std.specs.Prelude.{slice_index, slice_index_or, slice_set}
use Rattle.std.specs.List.{range_with_len}
use Rattle.node_program.specs.Node.{start, to_left, to_right}
use Rattle.lang_check.specs.Plans.{ProgramForIds}
use Rattle.win_index.specs.Ring.{OrientedRing}
use Rattle.round_eval.specs.Rows.{row_after}
use Rattle.border_exchange.specs.SegmentPlaces.{first_place}
use Rattle.ring_core.specs.declared.event.RingEvent.{RingEvent}
use Rattle.ring_core.specs.declared.event.RingEvent.TheVariants.{SendRight, SendLeft, Advance}

-- a segment: the number of rounds that it has done, and the registers of its places
pub record SegmentState : Type 0 where
  pub round : ℕ
  pub states : List (List ℕ)

-- a border: the messages sent over it to the right and to the left, that of round k at index k
pub record BorderState : Type 0 where
  pub rightward : List ℕ
  pub leftward : List ℕ

-- a plan, a ring, its segments in the ring's order, and as many borders. Border s is between segment s and the next
-- one; the next one after the last is segment 0
pub record Machine : Type 0 where
  pub plan : ProgramForIds
  pub ring : OrientedRing
  pub segments : List SegmentState
  pub borders : List BorderState

-- the border before segment s, and the segment after border b, of g of each
abbrev pub border_before : ℕ → ℕ → ℕ
border_before g s = (s + g - 1) % g

abbrev pub segment_after : ℕ → ℕ → ℕ
segment_after g b = (b + 1) % g

-- at first segment s of g has done no round, and its places have their start registers
abbrev pub opening_segment : ProgramForIds → OrientedRing → ℕ → ℕ → SegmentState
opening_segment plan ring g s =
    let n = length ring.places in
    record {
      round = 0;
      states = map (λ i. start plan.program (slice_index ring.places i))
          (range_with_len (first_place n g s) (first_place n g (s + 1) - first_place n g s));
    }

-- and nothing was sent
abbrev pub no_messages : BorderState
no_messages = record { rightward = []; leftward = [] }

-- a machine of this plan and ring, in so many segments
abbrev pub IsMachineOf : ProgramForIds → OrientedRing → ℕ → Machine → Type 0
IsMachineOf plan ring g m = (m.plan ≡ plan) × (m.ring ≡ ring) × (length m.segments ≡ g)

abbrev pub opening : ProgramForIds → OrientedRing → ℕ → Machine
opening plan ring g =
    record {
      plan = plan;
      ring = ring;
      segments = map (opening_segment plan ring g) (range_with_len 0 g);
      borders = replicate g no_messages;
    }

-- segment s of a machine, and border b. A segment that does not exist has no places, and a border that does not exist
-- has no messages
abbrev pub no_places : SegmentState
no_places = record { round = 0; states = [] }

abbrev pub segment_at : Machine → ℕ → SegmentState
segment_at m s = slice_index_or m.segments s no_places

abbrev pub border_at : Machine → ℕ → BorderState
border_at m b = slice_index_or m.borders b no_messages

-- the two borders of segment s
abbrev pub left_border : Machine → ℕ → BorderState
left_border m s = border_at m (border_before (length m.segments) s)

abbrev pub right_border : Machine → ℕ → BorderState
right_border m s = border_at m s

-- the registers of the first and of the last place of a segment
abbrev pub first_state : SegmentState → List ℕ
first_state a = slice_index_or a.states 0 []

abbrev pub last_state : SegmentState → List ℕ
last_state a = slice_index_or a.states (length a.states - 1) []

-- segment s may send to a side to which it has sent these messages: it has a round to do, and has not sent in it
pub record CanSend (m : Machine) (s : ℕ) (sent : List ℕ) : Type 0 where
  pub is_segment : s < length m.segments
  pub unfinished : (segment_at m s).round < length m.plan.program.steps
  pub unsent : length sent ≤ (segment_at m s).round

abbrev pub CanSendRight : Machine → ℕ → Type 0
CanSendRight m s = CanSend m s (right_border m s).rightward

-- then the message of its last place is at the border
abbrev pub sent_right : Machine → ℕ → Machine
sent_right m s =
    let a = segment_at m s in
    let b = right_border m s in
    record m {
      borders = slice_set m.borders s
          (record b { rightward = b.rightward ++ to_right m.plan.program a.round (last_state a) ∷ [] });
    }

abbrev pub CanSendLeft : Machine → ℕ → Type 0
CanSendLeft m s = CanSend m s (left_border m s).leftward

-- then the message of its first place is at the border before it
abbrev pub sent_left : Machine → ℕ → Machine
sent_left m s =
    let a = segment_at m s in
    let b = left_border m s in
    record m {
      borders = slice_set m.borders (border_before (length m.segments) s)
          (record b { leftward = b.leftward ++ to_left m.plan.program a.round (first_state a) ∷ [] });
    }

-- segment s may advance: it has sent both ways in its round, and the messages of this round have come from both sides
pub record CanAdvance (m : Machine) (s : ℕ) : Type 0 where
  pub is_segment : s < length m.segments
  pub sent_right : (segment_at m s).round < length (right_border m s).rightward
  pub sent_left : (segment_at m s).round < length (left_border m s).leftward
  pub left_came : (segment_at m s).round < length (left_border m s).rightward
  pub right_came : (segment_at m s).round < length (right_border m s).leftward

-- then all its places have done this round
abbrev pub advanced : Machine → ℕ → Machine
advanced m s =
    let a = segment_at m s in
    let left = slice_index (left_border m s).rightward a.round in
    let right = slice_index (right_border m s).leftward a.round in
    record m {
      segments = slice_set m.segments s
          (record { round = a.round + 1; states = row_after m.plan.program a.round left a.states right });
    }

-- the effect of an event on m. An event that is not enabled, or that names a segment out of range, changes nothing
abbrev pub Steps : Machine → RingEvent → Machine → Type 0
Steps m (SendRight s) t = (CanSendRight m s × (t ≡ sent_right m s)) ⊎ ((¬ CanSendRight m s) × (t ≡ m))
Steps m (SendLeft s) t = (CanSendLeft m s × (t ≡ sent_left m s)) ⊎ ((¬ CanSendLeft m s) × (t ≡ m))
Steps m (Advance s) t = (CanAdvance m s × (t ≡ advanced m s)) ⊎ ((¬ CanAdvance m s) × (t ≡ m))

-- the effect of a list of events on m
abbrev pub Runs : Machine → List RingEvent → Machine → Type 0
Runs m [] t = t ≡ m
Runs m (e ∷ es) t = (u : Machine) × Steps m e u × Runs u es t
