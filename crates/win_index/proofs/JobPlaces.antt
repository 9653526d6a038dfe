-- The positions of the jobs of a level among all jobs.
use Rattle.std.proofs.Common.{◌≡◌, ℕ, ◌+◌, ◌-◌, ◌*◌, ◌<◌, ◌≤◌, List, ◌++◌, flat_map, length, slice_get, Some, refl, ap}
use Rattle.std.proofs.Common.{◌∙◌, arith, length-append, append-nil}
use Rattle.std.specs.List.{range_with_len}
use Rattle.std.proofs.lemmas.List.FromFn.{length-map-range_with_len, get_or-map-range_with_len}
use Rattle.std.proofs.lemmas.List.Concat.{flat_map-append}
use Rattle.std.proofs.lemmas.Option.{slice_get-get_or}
use Rattle.win_index.specs.declared.limits.TheConstants.{MAX_BLOCKS}
use Rattle.win_index.specs.Blocks.{block_count}
use Rattle.win_index.specs.Jobs.{level_jobs, jobs_of}
use Rattle.win_index.specs.ShapeRange.{HasIds, HasFewWindows}
use Rattle.win_index.proofs.Levels.{few_shorter, few_of_shape}
use Rattle.win_index.proofs.Kept.{range_with_len-append, slice_get-append_left, slice_get-append_right}

-- at most MAX_WINDOWS windows fill at most MAX_BLOCKS blocks
pub few_blocks : (m t level : ℕ) → HasIds m t → HasFewWindows m t → level ≤ t → block_count m level ≤ MAX_BLOCKS
few_blocks m t level ids few le =
    omega (arith, few_shorter m t (2 * level + 1) ids few (omega arith))

-- the jobs of the levels below
pub jobs_below : ℕ → ℕ → List (ℕ × ℕ)
jobs_below m level = flat_map (level_jobs m) (range_with_len 0 level)

-- the jobs of one level more
pub jobs_below_more : (m level : ℕ) → jobs_below m (level + 1) ≡ jobs_below m level ++ level_jobs m level
unfolding jobs_below
jobs_below_more m level =
    ap (flat_map (level_jobs m)) (range_with_len-append 0 level 1 level (omega arith))
    ∙ flat_map-append (level_jobs m) (range_with_len 0 level) (range_with_len level 1)
    ∙ ap (λ l. jobs_below m level ++ l) (append-nil (level_jobs m level))

pub length-level_jobs : (m level : ℕ) → length (level_jobs m level) ≡ block_count m level
length-level_jobs m level = length-map-range_with_len (λ b. (level, b)) 0 (block_count m level)

-- their number
pub length_jobs_below : (m level : ℕ) →
    length (jobs_below m (level + 1)) ≡ length (jobs_below m level) + block_count m level
length_jobs_below m level =
    ap length (jobs_below_more m level) ∙ length-append (jobs_below m level) (level_jobs m level)
    ∙ ap (λ n. length (jobs_below m level) + n) (length-level_jobs m level)

pub no_jobs_below : (m : ℕ) → length (jobs_below m 0) ≡ 0
unfolding jobs_below
no_jobs_below m = refl

-- the jobs of all levels are those below level t+1
pub jobs_are_below : (m t : ℕ) → jobs_of m t ≡ jobs_below m (t + 1)
unfolding jobs_of jobs_below
jobs_are_below m t = refl

pub level_job_at : (m level block : ℕ) → block < block_count m level →
    slice_get (level_jobs m level) block ≡ Some (level, block)
level_job_at m level block lt =
    slice_get-get_or (level_jobs m level) block (level, block) (omega (arith, length-level_jobs m level))
    ∙ ap Some (get_or-map-range_with_len (λ b. (level, b)) 0 (block_count m level) block block (level, block) lt
    (omega arith))

-- a block of a level comes after the jobs of the levels below and the blocks before it
pub job_at :
    (m t level block n : ℕ) → level ≤ t → block < block_count m level → n ≡ length (jobs_below m level) + block
    → slice_get (jobs_of m t) n ≡ Some (level, block)
unfolding jobs_of jobs_below
job_at m t level block n le lt e =
    let rest : List (ℕ × ℕ) = flat_map (level_jobs m) (range_with_len (level + 1) (t - level)) in
    let all : level + 1 + (t - level) ≡ t + 1 = omega arith in
    let split = range_with_len-append 0 (level + 1) (t - level) (level + 1) (omega arith) in
    let cut = ap (flat_map (level_jobs m)) (rw all at split)
    ∙ flat_map-append (level_jobs m) (range_with_len 0 (level + 1)) (range_with_len (level + 1) (t - level)) in
    let inside : n < length (jobs_below m (level + 1)) = omega (arith, length_jobs_below m level) in
    ap (λ l. slice_get l n) cut
    ∙ slice_get-append_left (jobs_below m (level + 1)) rest n inside
    ∙ ap (λ l. slice_get l n) (jobs_below_more m level)
    ∙ slice_get-append_right (jobs_below m level) (level_jobs m level) n block e
    ∙ level_job_at m level block lt

pub ruleset counts = (length_jobs_below, no_jobs_below, few_of_shape)
