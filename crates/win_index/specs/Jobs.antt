-- Jobs: the blocks of all levels, one after another.
use Rattle.std.specs.Prelude.{ℕ, ◌+◌, ◌==◌, ◌&&◌, Bool, List, Option, map, flat_map, position}
use Rattle.std.specs.List.{range_with_len}
use Rattle.win_index.specs.Blocks.{block_count}

-- the jobs of level r: the pair of level and block for each of its blocks, in order
abbrev pub level_jobs : ℕ → ℕ → List (ℕ × ℕ)
level_jobs m r = map (λ b. (r, b)) (range_with_len 0 (block_count m r))

-- the jobs for t rounds: those of level 0, then of level 1, up to level t; a job's number is its position
unfoldable pub jobs_of : ℕ → ℕ → List (ℕ × ℕ)
jobs_of m t = flat_map (level_jobs m) (range_with_len 0 (t + 1))

-- whether a job is this block of this level
abbrev pub is_job : ℕ → ℕ → ℕ × ℕ → Bool
is_job level block job = (job.0 == level) && (job.1 == block)

-- the number of the job for a block of a level: its position among the jobs, or none if there is no such block
unfoldable pub job_number : ℕ → ℕ → ℕ → ℕ → Option ℕ
job_number m t level block = position (is_job level block) (jobs_of m t)
