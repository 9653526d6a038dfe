use Rattle.std.proofs.Common.{◌≡◌, List, length}
use Rattle.std.specs.Vec.Iter.{into_iter_items, into_iter_len}
use Rattle.shared_memo.specs.declared.pool.worker_jobs.WorkerOutcome.{WorkerOutcome}
use Rattle.shared_memo.proofs.Taken.{Taken}
use Rattle.shared_memo.proofs.pool.answer_of.Given as goal

abbrev pub invariant-loop-outcome : goal.invariant-loop-outcome
invariant-loop-outcome g l =
    (into_iter_len l.outcome-iterator ≡ length (into_iter_items l.outcome-iterator))
    × ((done : List (WorkerOutcome _)) × Taken l.fn.outcomes.items done (into_iter_items l.outcome-iterator) l.last)
