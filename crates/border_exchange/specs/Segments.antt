-- Segments on their own rounds.
use Rattle.std.specs.Prelude.{◌≡◌, ℕ, ◌+◌, ◌-◌, ◌*◌, ◌<◌, ◌≤◌, List, length}
use Rattle.lang_check.specs.Plans.{ProgramForIds}
use Rattle.win_index.specs.Ring.{OrientedRing}
use Rattle.round_eval.specs.Shapes.{IsOfShape}
use Rattle.round_eval.specs.Rows.{rows, stretch}
use Rattle.border_exchange.specs.SegmentPlaces.{first_place}

-- a segment of a ring that runs a plan: its index, of how many, and the number of rounds that it has done. The
-- registers of its places follow from these
pub record RingSegment : Type 0 where
  pub plan : ProgramForIds
  pub ring : OrientedRing
  pub segments : ℕ
  pub index : ℕ
  pub round : ℕ

-- its first place, and the number of its places
abbrev pub first_of : RingSegment → ℕ
first_of s = first_place (length s.ring.places) s.segments s.index

abbrev pub places_of : RingSegment → ℕ
places_of s = first_place (length s.ring.places) s.segments (s.index + 1) - first_of s

-- the registers of its places after its rounds, by global rounds
abbrev pub states_of : RingSegment → List (List ℕ)
states_of s = stretch s.plan.program s.ring.places s.round (first_of s) (places_of s)

-- the invariant of segments: the first place, the place after the last, the number of spare cells, and the cells of the
-- places
pub record KeepsSegment (s : RingSegment) (first end spare : ℕ) (cells : List ℕ) : Type 0 where
  pub shape : IsOfShape s.ring s.plan
  pub few_segments : s.segments ≤ length s.ring.places
  pub index : s.index < s.segments
  pub round : s.round ≤ length s.plan.program.steps
  pub first_is : first ≡ first_of s
  pub end_is : end ≡ first_place (length s.ring.places) s.segments (s.index + 1)
  pub some : first < end
  pub inside : end ≤ length s.ring.places
  pub size : length cells ≡ (end - first) * length s.plan.program.start
  pub spare_size : spare ≡ length cells
  pub rows_are : rows (length s.plan.program.start) (end - first) cells
      ≡ stretch s.plan.program s.ring.places s.round first (end - first)
