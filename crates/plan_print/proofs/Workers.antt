-- The number of workers of a task is one for the filling of a table.
use Rattle.std.proofs.Common.{ℕ}
use Rattle.task_words.specs.Counts.{IsCount}
use Rattle.shared_memo.specs.Workers.{IsWorkerCount}

pub worker_count : (workers : ℕ) → IsCount workers → IsWorkerCount workers
worker_count workers is = record { some = is.some; few = is.few }
