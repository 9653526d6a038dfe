-- The statements of the laws of this crate, one definition each.
use Rattle.std.specs.Prelude.{◌≡◌, ℕ, ◌+◌, ◌-◌, ◌*◌, ◌/◌, ◌%◌, ◌<◌, ◌≤◌, ◌↔◌, List, length, take, slice_get}
use Rattle.std.specs.Prelude.{slice_index, slice_index_or, Some, IsSome}
use Rattle.win_index.specs.declared.limits.TheConstants.{MAX_BLOCKS}
use Rattle.win_index.specs.declared.ring.RingFault.{RingFault}
use Rattle.win_index.specs.Arcs.{arc, window_around, part_at}
use Rattle.win_index.specs.Blocks.{block_count}
use Rattle.win_index.specs.Falling.{falling}
use Rattle.win_index.specs.Jobs.{jobs_of, job_number}
use Rattle.win_index.specs.Lexicographic.{StandsBefore}
use Rattle.win_index.specs.Ring.{IsRing}
use Rattle.win_index.specs.RingFaults.{IsFirstFault}
use Rattle.win_index.specs.ShapeRange.{IsShape}
use Rattle.win_index.specs.Windows.{unused, windows, number_of, IsWindow}

-- the window with number n has number n
abbrev pub NumberOfWindow : Type 0
NumberOfWindow = (k m n : ℕ) (window : List ℕ) → slice_get (windows k m) n ≡ Some window → number_of k m window ≡ Some n

-- the window at the number of a list is that list
abbrev pub WindowOfNumber : Type 0
WindowOfNumber = (k m n : ℕ) (list : List ℕ) → number_of k m list ≡ Some n → slice_get (windows k m) n ≡ Some list

-- a list has a number if and only if its elements are k distinct numbers below m
abbrev pub WindowsHaveNumbers : Type 0
WindowsHaveNumbers = (k m : ℕ) (list : List ℕ) → IsSome (number_of k m list) ↔ IsWindow k m list

-- of two windows the one with the smaller number stands before the other in lexicographic order
abbrev pub WindowsAreInOrder : Type 0
WindowsAreInOrder =
    (k m i j : ℕ) (a b : List ℕ) → i < j → slice_get (windows k m) i ≡ Some a →
    slice_get (windows k m) j ≡ Some b → StandsBefore a b

-- there are as many windows of length k below m as the product of the k numbers from m down
abbrev pub CountOfWindows : Type 0
CountOfWindows = (k m : ℕ) → length (windows k m) ≡ falling m k

-- the windows of k+1 identifiers with the window at number n as their prefix are those from number n (m-k) on, each at
-- the position of its last identifier among the m-k identifiers that the prefix lacks
abbrev pub LongerWindowsHaveNumbers : Type 0
LongerWindowsHaveNumbers =
    (k m n : ℕ) (longer : List ℕ) → IsWindow (k + 1) m longer → slice_get (windows k m) n ≡ Some (take k longer)
    → let place = length (unused (slice_index longer k) (take k longer)) in
    (place < m - k) × (slice_get (windows (k + 1) m) (n * (m - k) + place) ≡ Some longer)

-- the windows of k+j identifiers with the same prefix of k identifiers are consecutive, as many for each prefix: the
-- prefix of window n has number n / (m-k)(m-k-1) .. (m-k-j+1), a product of j numbers
abbrev pub PrefixesHaveNumbers : Type 0
PrefixesHaveNumbers =
    (k j m n : ℕ) (window : List ℕ) → slice_get (windows (k + j) m) n ≡ Some window
    → slice_get (windows k m) (n / falling (m - k) j) ≡ Some (take k window)

-- the windows of a level of a shape fill at most MAX_BLOCKS blocks
abbrev pub BlocksAreFew : Type 0
BlocksAreFew = (m t level : ℕ) → IsShape m t → level ≤ t → block_count m level ≤ MAX_BLOCKS

-- each job is at its number and nowhere else
abbrev pub JobsStandAtNumbers : Type 0
JobsStandAtNumbers =
    (m t level block n : ℕ) → (job_number m t level block ≡ Some n) ↔ (slice_get (jobs_of m t) n ≡ Some (level, block))

-- a block of a level has a job if and only if the level is one of the shape's and has this block
abbrev pub BlocksHaveJobs : Type 0
BlocksHaveJobs =
    (m t level block : ℕ) → IsSome (job_number m t level block) ↔ (level ≤ t) × (block < block_count m level)

-- the identifiers around a place of a ring are a window
abbrev pub RingsHaveWindows : Type 0
RingsHaveWindows =
    (m t level place : ℕ) (ring : List ℕ) → IsRing m t ring → level ≤ t →
    IsWindow (2 * level + 1) m (window_around ring level place)

-- a list of 2t+1+extra distinct identifiers, taken as a ring, has at place t+step its window from the offset step on
abbrev pub TuplesAreRings : Type 0
TuplesAreRings =
    (m t extra : ℕ) (list : List ℕ) → 1 ≤ extra → IsWindow (2 * t + 1 + extra) m list
    → IsRing m t list × (window_around list t t ≡ part_at t 0 list)
    × ((step : ℕ) → step ≤ extra → window_around list t (t + step) ≡ part_at t step list)

-- the identifiers from t places to the left of a place of a ring to t+extra places to its right are distinct, and
-- contain the windows of all places from this one to extra places to its right
abbrev pub RingsHaveTuples : Type 0
RingsHaveTuples =
    (m t extra place : ℕ) (ring : List ℕ) → IsRing m t ring → 2 * t + 1 + extra ≤ length ring
    → let list = arc ring (place + length ring - t) (2 * t + 1 + extra) in
    IsWindow (2 * t + 1 + extra) m list × (part_at t 0 list ≡ window_around ring t place)
    × ((step : ℕ) → step ≤ extra → part_at t step list ≡ window_around ring t (place + step))

-- an arc has the requested number of identifiers
abbrev pub LengthOfArcs : Type 0
LengthOfArcs = (ring : List ℕ) (start count : ℕ) → length (arc ring start count) ≡ count

-- the k-th identifier of an arc is that of the place k steps after its start, around the ring
abbrev pub ItemsOfArcs : Type 0
ItemsOfArcs =
    (ring : List ℕ) (start count k d : ℕ) → k < count
    → slice_index_or (arc ring start count) k d ≡ slice_index ring ((start + k) % length ring)

-- a list has at most one first fault
abbrev pub OneRingFault : Type 0
OneRingFault = (m t : ℕ) (list : List ℕ) (f g : RingFault) → IsFirstFault m t list f → IsFirstFault m t list g → f ≡ g

-- a ring has none
abbrev pub RingsHaveNoFault : Type 0
RingsHaveNoFault = (m t : ℕ) (list : List ℕ) (f : RingFault) → IsRing m t list → IsFirstFault m t list f → ⊥
