-- The faults of segments. No public contract cites this file.
use Rattle.std.specs.Prelude.{◌≡◌, Result, Ok, Err}
use Rattle.round_eval.specs.declared.fault.WorkFault.{WorkFault}
use Rattle.round_eval.specs.declared.fault.WorkFault.TheVariants as work
use Rattle.border_exchange.specs.Headings.{heading_of}
use Rattle.border_exchange.specs.Needs as needs
use Rattle.border_exchange.specs.Segments.{RingSegment}
use Rattle.ring_exec.specs.declared.segment_fault.RunStop.{RunStop}
use Rattle.ring_exec.specs.declared.segment_fault.RunStop.TheVariants as stop
use Rattle.ring_exec.specs.declared.segment_fault.SegmentFault.{SegmentFault}
use Rattle.ring_exec.specs.declared.segment_fault.SegmentFault.TheVariants.{OutOfMemory, Stranger}

-- the fault without what the segment has taken
abbrev pub work_fault_of : SegmentFault → WorkFault
work_fault_of OutOfMemory = work.OutOfMemory
work_fault_of (Stranger mismatch) = work.Stranger

-- if a segment stops for messages, it does not need both
abbrev pub IsStopOf : RingSegment → RunStop → Type 0
IsStopOf s stop.BorderClosed = Unit {0}
IsStopOf s stop.OutOfMemory = Unit {0}
IsStopOf s (stop.Strange left right) = ¬ ((heading_of left ≡ needs.from_left s)
    × (heading_of right ≡ needs.from_right s))

-- the outcome of a segment, by why it stopped: the segment itself after its last round, and if a border is closed,
-- which is no fault of the segment; else its fault, with the messages for which it stopped
abbrev pub IsOutcome : RingSegment → Result (Unit {0}) RunStop → Result RingSegment SegmentFault → Type 0
IsOutcome s (Ok done) outcome = outcome ≡ Ok s
IsOutcome s (Err stop.BorderClosed) outcome = outcome ≡ Ok s
IsOutcome s (Err stop.OutOfMemory) outcome = outcome ≡ Err OutOfMemory
IsOutcome s (Err (stop.Strange left right)) (Ok ended) = ⊥
IsOutcome s (Err (stop.Strange left right)) (Err OutOfMemory) = ⊥
IsOutcome s (Err (stop.Strange left right)) (Err (Stranger m)) = (m.segment ≡ s) × (m.from_left ≡ left)
    × (m.from_right ≡ right)

-- if the fault is a stranger, it is one of this segment, in some round
abbrev pub IsFaultOf : RingSegment → SegmentFault → Type 0
IsFaultOf s OutOfMemory = Unit {0}
IsFaultOf s (Stranger m) = m.segment ≡ record s { round = m.segment.round }
