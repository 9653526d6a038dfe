-- The outcomes of workers, one by one and together.
use Rattle.std.specs.Prelude.{◌≡◌, ℕ, ◌<◌, List, [], Option, Result, Ok, Err, IsOk, All, Contains, MatchOption}
use Rattle.std.specs.Prelude.{MatchResult, length}
use Rattle.shared_memo.specs.declared.pool.job_fault.JobFault.{JobFault}
use Rattle.shared_memo.specs.declared.pool.worker_jobs.WorkerOutcome.{WorkerOutcome}
use Rattle.shared_memo.specs.JobFaults.{OfStranger}
use Rattle.shared_memo.specs.Tickets.{drawn, worker_of, AreNumbered}

-- the number of the worker that came to this
abbrev pub outcome_worker : {K : Type 0} → WorkerOutcome K → ℕ
outcome_worker outcome = worker_of outcome.ticket

-- an outcome is what the worker knows once it has filled the jobs that its ticket has drawn, or its fault, with what it
-- knows once it has met a stranger
abbrev pub IsOutcome : {K : Type 0} → (HasFilled : K → List ℕ → Type 0) (HasMetStranger : K → Type 0)
    → WorkerOutcome K → Type 0
IsOutcome HasFilled HasMetStranger outcome =
    MatchResult outcome.answer (λ known. HasFilled known (drawn outcome.ticket)) (OfStranger HasMetStranger)

-- the outcomes of this many workers, in the order of their numbers
pub record AreOutcomes {K : Type 0} (HasFilled : K → List ℕ → Type 0) (HasMetStranger : K → Type 0) (workers : ℕ)
    (outcomes : List (WorkerOutcome K)) : Type 0 where
  pub count : length outcomes ≡ workers
  pub numbers : AreNumbered outcomes outcome_worker
  pub each : All (IsOutcome HasFilled HasMetStranger) outcomes

-- an outcome of the lowest worker with a fault: this is its fault, and workers with lower numbers have none
pub record IsLowest {K : Type 0} (outcomes : List (WorkerOutcome K)) (fault : JobFault K)
    (outcome : WorkerOutcome K) : Type 0 where
  pub one_of : Contains outcomes outcome
  pub fault_is : outcome.answer ≡ Err fault
  pub none_lower : All (λ other. outcome_worker other < outcome_worker outcome → IsOk other.answer) outcomes

-- the fault of the lowest worker that has one
abbrev pub IsLowestFault : {K : Type 0} → List (WorkerOutcome K) → JobFault K → Type 0
IsLowestFault {K = K} outcomes fault = (outcome : WorkerOutcome K) × IsLowest outcomes fault outcome

-- one of the workers knows this, and has no fault
abbrev pub OneKnows : {K : Type 0} → List (WorkerOutcome K) → K → Type 0
OneKnows {K = K} outcomes known = (outcome : WorkerOutcome K) × Contains outcomes outcome × (outcome.answer ≡ Ok known)

-- what workers came to together: no worker has a fault, and one of them knows this, if there is any; or the fault
-- of the lowest worker that has one
abbrev pub IsAnswerOf : {K : Type 0} → List (WorkerOutcome K) → Result (Option K) (JobFault K) → Type 0
IsAnswerOf outcomes answer =
    MatchResult answer (λ known. All (λ outcome. IsOk outcome.answer) outcomes
    × MatchOption known (outcomes ≡ []) (OneKnows outcomes))
    (IsLowestFault outcomes)
