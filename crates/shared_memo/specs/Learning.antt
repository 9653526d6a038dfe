-- What the caller's pass learns from workers that fill the cells of its memo.
use Rattle.std.specs.Prelude.{◌≡◌, ℕ, ◌⊎◌, List, [], Result, Ok, Err, IsOk, All}
use Rattle.round_eval.specs.declared.fault.WorkFault.{WorkFault}
use Rattle.round_eval.specs.declared.fault.WorkFault.TheVariants as work
use Rattle.shared_memo.specs.declared.memo.Memo.{Memo}
use Rattle.shared_memo.specs.declared.pass.Pass.{Pass}
use Rattle.shared_memo.specs.declared.pool.job_fault.JobFault.{JobFault}
use Rattle.shared_memo.specs.declared.pool.worker_jobs.WorkerOutcome.{WorkerOutcome}
use Rattle.shared_memo.specs.JobFaults.{work_fault_of}
use Rattle.shared_memo.specs.Outcomes.{IsLowestFault, OneKnows}
use Rattle.shared_memo.specs.Filled.{AreKnown, MetStranger}
use Rattle.shared_memo.specs.Passes.{known, memo_plan, IsPassOf, IsJoined}

-- a pass of the memo that knows the block of each of these jobs
abbrev pub IsFilledPass : Memo → Pass → List ℕ → Type 0
IsFilledPass memo pass jobs = IsPassOf memo pass × AreKnown (memo_plan memo) (known pass) jobs

-- a pass of the memo that has found a stranger
abbrev pub IsStrangerPass : Memo → Pass → Type 0
IsStrangerPass memo pass = IsPassOf memo pass × MetStranger (memo_plan memo) pass

-- the pass has learned what one of the workers knows, if there is one
abbrev pub HasLearnedOne : List (WorkerOutcome Pass) → Pass → Pass → Type 0
HasLearnedOne outcomes old new =
    ((outcomes ≡ []) × (new ≡ old))
    ⊎ ((other : Pass) × OneKnows outcomes other × IsJoined (known old) (known other) (known new))

-- what the pass has learned by a fault: a stranger that the worker has found; nothing, if memory was refused
abbrev pub HasLearnedFault : Memo → Pass → Pass → WorkFault → Type 0
HasLearnedFault memo old new work.OutOfMemory = new ≡ old
HasLearnedFault memo old new work.Stranger = MetStranger (memo_plan memo) new

-- no worker has a fault, and the pass has learned what one of them knows; or this is the fault of the lowest worker
-- that has one, and the pass has learned of it
abbrev pub HasLearnedAnswer : Memo → List (WorkerOutcome Pass) → Pass → Pass → Result (Unit {0}) WorkFault → Type 0
HasLearnedAnswer memo outcomes old new (Ok done) = All (λ outcome. IsOk outcome.answer) outcomes
    × HasLearnedOne outcomes old new
HasLearnedAnswer memo outcomes old new (Err fault) =
    ((met : JobFault Pass) × (work_fault_of met ≡ fault) × IsLowestFault outcomes met)
    × HasLearnedFault memo old new fault
