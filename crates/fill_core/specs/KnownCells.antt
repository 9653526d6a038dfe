-- What a worker knows, as a source of blocks.
use Rattle.std.specs.Prelude.{ℕ, Bool, cond, List, Option, None}
use Rattle.lang_check.specs.Plans.{ProgramForIds}
use Rattle.round_eval.specs.BlockStates.{MadeBlock}
use Rattle.round_eval.specs.Entries.{Entries}
use Rattle.shared_memo.specs.PlanJobs.{job_of}
use Rattle.fill_core.specs.FillMachine.{cell_of, is_marked}

-- the block in a job's cell, if the job is marked
abbrev pub known_cell : List (Option MadeBlock) → List Bool → Option ℕ → Option MadeBlock
known_cell cells marks job = cond (is_marked marks job) (cell_of cells job) None

-- the blocks of the marked jobs, each at its level and number
abbrev pub known_entries : ProgramForIds → List (Option MadeBlock) → List Bool → Entries
known_entries plan cells marks level number = known_cell cells marks (job_of plan level number)
