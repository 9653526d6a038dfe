-- Runs on their way. No public contract cites this file.
use Rattle.std.specs.Prelude.{◌≡◌, ◌≢◌, ℕ, ◌+◌, ◌<◌, ◌≤◌, ◌⊎◌, List, length, Option, None, Some, IsSome, IsNone}
use Rattle.std.specs.Prelude.{slice_get, vec_len, vec_capacity}
use Rattle.border_exchange.specs.Segments.{RingSegment}
use Rattle.border_exchange.specs.declared.segment.limits.TheConstants.{MAX_SEGMENTS}
use Rattle.ring_exec.specs.Faults.{blamed}
use Rattle.ring_exec.specs.Outcomes.{HasMore}
use Rattle.round_eval.specs.declared.fault.WorkFault.TheVariants.{OutOfMemory}
use Rattle.ring_exec.specs.declared.fault.ThreadFault.{ThreadFault}
use Rattle.ring_exec.specs.declared.fault.ThreadFault.TheVariants.{Work, NoThread}
use Rattle.ring_exec.specs.declared.joined.Joined.{Joined}
use Rattle.ring_exec.specs.declared.progress.Progress.{Progress}

-- the next segment has this index, the number of threads that were started, and the indices of the segments that
-- are not started fall to it
pub record AreWaiting (index threads : ℕ) (waiting : List RingSegment) : Type 0 where
  pub index_is : index ≡ threads
  pub falling : (k : ℕ) (s : RingSegment) → slice_get waiting k ≡ Some s → s.index + k + 1 ≡ index + length waiting

-- a run that goes on has the border before its next segment, and so many segments that are not started; a run that has
-- stopped has a fault
pub record IsOnCourse {X : Type 0} (before : Option X) (progress : Progress) (count : ℕ) : Type 0 where
  pub waiting : IsSome before → vec_len progress.waiting ≡ count
  pub next : IsSome before → AreWaiting progress.index (vec_len progress.threads) progress.waiting.items
  pub stopped : IsNone before → progress.joined.fault ≢ None

-- a segment is to be started next, and those that are not started are that one and those after it
pub record HasNextSegment (progress : Progress) : Type 0 where
  pub some : 0 < vec_len progress.waiting
  pub next : AreWaiting progress.index (vec_len progress.threads) progress.waiting.items

-- there is room for one segment more: for its index, its thread and its outcome
pub record HasRoom (progress : Progress) : Type 0 where
  pub index : progress.index + vec_len progress.waiting < MAX_SEGMENTS
  pub thread : vec_len progress.threads + vec_len progress.waiting < vec_capacity progress.threads
  pub outcome : vec_len progress.joined.segments + vec_len progress.threads + vec_len progress.waiting
      < vec_capacity progress.joined.segments

-- one segment fewer is not started, and the outcomes are the same
pub record HasTakenNext (before after : Progress) : Type 0 where
  pub waiting : vec_len after.waiting + 1 ≡ vec_len before.waiting
  pub joined : after.joined ≡ before.joined

-- the next segment was started on a thread, and those that are not started are those after it
pub record HasStartedNext (before after : Progress) : Type 0 where
  pub taken : HasTakenNext before after
  pub index : after.index ≡ before.index + 1
  pub thread : vec_len after.threads ≡ vec_len before.threads + 1
  pub next : AreWaiting after.index (vec_len after.threads) after.waiting.items

-- the next segment was not started: if its start was tried, which raises the index, there was no thread, and else no
-- memory
pub record HasRefusedNext (before after : Progress) (fault : ThreadFault) : Type 0 where
  pub taken : HasTakenNext before after
  pub why : ((fault ≡ NoThread) × (after.index ≡ before.index + 1))
      ⊎ ((fault ≡ Work OutOfMemory) × (after.index ≡ before.index))

-- after the start of a segment: without a fault, there is one thread more, and no outcome
abbrev pub HasStarted : Progress → Progress → Type 0
HasStarted before after =
    after.joined.fault ≡ None
    → (before.joined.fault ≡ None) × (after.joined.segments ≡ before.joined.segments)
    × (vec_len after.threads ≡ vec_len before.threads + 1)

-- the fault of a run whose next segment was not started: if its start was tried, which raises the index, there was no
-- thread, and else no memory
pub record HasRefused (before after : Progress) : Type 0 where
  pub index : (before.index ≤ after.index) × (after.index ≤ before.index + 1)
  pub thread : after.index ≡ before.index + 1 → after.joined.fault ≡ Some (blamed before.joined.fault NoThread)
  pub memory : after.index ≡ before.index → after.joined.fault ≡ Some (blamed before.joined.fault (Work OutOfMemory))

-- after the end of a run in which so many segments were not started yet: without a fault, the outcomes of its threads
-- and of these segments were added
abbrev pub HasEnded : Progress → ℕ → Joined → Type 0
HasEnded progress count joined = HasMore progress.joined (vec_len progress.threads + count) joined
