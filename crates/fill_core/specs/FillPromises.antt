-- The invariant of the fill machine, which holds after every list of events.
use Rattle.std.specs.Prelude.{◌≡◌, ℕ, ◌<◌, ◌≤◌, ◌⊎◌, Bool, true, false, List, Option, None, Some, IsSome}
use Rattle.std.specs.Prelude.{length, slice_index_or}
use Rattle.lang_check.specs.Plans.{ProgramForIds}
use Rattle.round_eval.specs.BlockStates.{MadeBlock}
use Rattle.shared_memo.specs.PlanJobs.{job_count, job_of}
use Rattle.fill_core.specs.FillMachine.{Machine, worker}

-- a cell for each job of a plan. A full cell holds a block of the plan at the level and the number of its job; so
-- it has the states of that block's windows, which follow from these three
pub record HoldsJobs (plan : ProgramForIds) (cells : List (Option MadeBlock)) : Type 0 where
  pub size : length cells ≡ job_count plan
  pub filled : (job : ℕ) (b : MadeBlock) → slice_index_or cells job None ≡ Some b
      → (b.plan ≡ plan) × (job_of plan b.level b.number ≡ Some job)

-- the cell of each marked job is full
abbrev pub MarkedAreFull : List (Option MadeBlock) → List Bool → Type 0
MarkedAreFull cells marks = (job : ℕ) → slice_index_or marks job false ≡ true → IsSome (slice_index_or cells job None)

-- the invariant of the cells, the next job and the workers
pub record IsConsistent (s : Machine) : Type 0 where
  -- each full cell holds the block of its job
  pub cells : HoldsJobs s.plan s.cells
  -- there is a worker
  pub some_worker : 0 < length s.workers
  -- each worker tells of each job whether its block is known; what is known is there
  pub marks : (w : ℕ) → w < length s.workers → length (worker s w).knows ≡ job_count s.plan
  pub known : (w : ℕ) → MarkedAreFull s.cells (worker s w).knows
  -- no more jobs are drawn than there are
  pub few : s.next ≤ job_count s.plan
  -- each job below the next one is in a hand, or its cell is full
  pub placed : (job : ℕ) → job < s.next
      → IsSome (slice_index_or s.cells job None) ⊎ ((w : ℕ) × ((worker s w).hand ≡ Some job))
  -- no two hands hold one job
  pub one_hand : (v w job : ℕ) → (worker s v).hand ≡ Some job → (worker s w).hand ≡ Some job → v ≡ w
  -- what is in hand is below the next job
  pub below : (w job : ℕ) → (worker s w).hand ≡ Some job → job < s.next
  -- a stopped worker found all jobs drawn, and has none in hand
  pub ended : (w : ℕ) → w < length s.workers → (worker s w).stopped ≡ true
      → (job_count s.plan ≤ s.next) × ((worker s w).hand ≡ None)

-- t is of the plan of s, has as many workers, and is consistent
pub record Follows (s t : Machine) : Type 0 where
  pub plan : t.plan ≡ s.plan
  pub workers : length t.workers ≡ length s.workers
  pub consistent : IsConsistent t

-- if all workers are stopped, no cell is empty
abbrev pub IsFilledWhenStopped : Machine → Type 0
IsFilledWhenStopped s =
    ((w : ℕ) → w < length s.workers → (worker s w).stopped ≡ true) → (job : ℕ) → job < job_count s.plan
    → IsSome (slice_index_or s.cells job None)
