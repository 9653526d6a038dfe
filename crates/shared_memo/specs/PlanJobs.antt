-- The jobs of a plan: one for each block of each of its levels.
use Rattle.std.specs.Prelude.{◌≡◌, ℕ, ◌+◌, List, Option, Some, length, slice_index}
use Rattle.win_index.specs.Jobs.{jobs_of, job_number}
use Rattle.lang_check.specs.Plans.{ProgramForIds}
use Rattle.round_eval.specs.BlockStates.{MadeBlock}
pub use Rattle.round_eval.specs.BlockStates.{IsKey, IsKeyedBlock}

-- the number of jobs of a plan
abbrev pub job_count : ProgramForIds → ℕ
job_count plan = length (jobs_of plan.ids (length plan.program.steps))

-- the number of the job for a block of a level, if there is one
abbrev pub job_of : ProgramForIds → ℕ → ℕ → Option ℕ
job_of plan level number = job_number plan.ids (length plan.program.steps) level number

-- a block of another plan, level or number
abbrev pub IsStranger : ProgramForIds → ℕ → ℕ → MadeBlock → Type 0
IsStranger plan level number b = ¬ IsKeyedBlock plan level number b

-- for each level of the plan the number of the job of its first block; the others of the level follow it
abbrev pub AreFirstJobs : ProgramForIds → List ℕ → Type 0
AreFirstJobs plan firsts =
    (length firsts ≡ length plan.program.steps + 1)
    × ((level number : ℕ) → IsKey plan level number →
    job_of plan level number ≡ Some (slice_index firsts level + number))
