-- The statement of the law of this crate.
use Rattle.std.specs.Prelude.{◌≡◌, List}
use Rattle.ring_core.specs.declared.event.RingEvent.{RingEvent}
use Rattle.ring_core.specs.Machine.{Machine, Runs}

-- a list of events leads from a state of the segment machine to at most one state
abbrev pub OneRun : Type 0
OneRun = (m t u : Machine) (es : List RingEvent) → Runs m es t → Runs m es u → t ≡ u
