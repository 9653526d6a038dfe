-- Each job is at its number and nowhere else.
use Rattle.std.proofs.Common.{◌≡◌, ◌↔◌, ℕ, zero, suc, ◌+◌, ◌-◌, ◌<◌, ◌≤◌, true, eqb, List, length, slice_get, Some}
use Rattle.std.proofs.Common.{None, IsSome, refl, sym, ap, ◌∙◌, arith, ⊎_elim}
use Rattle.std.proofs.lemmas.Bool.{and_parts, eqb-true, eq-eqb, cases_lt}
use Rattle.std.proofs.lemmas.Option.{some_pair_parts, slice_get_within}
use Rattle.win_index.specs.Blocks.{block_count}
use Rattle.win_index.specs.Jobs.{level_jobs, jobs_of, is_job, job_number}
use Rattle.win_index.proofs.Finding.{IsOnly, position_some, position_is, position_none, has_position}
use Rattle.win_index.proofs.JobPlaces.{no_jobs_below, jobs_below, jobs_below_more, length-level_jobs, level_job_at}
use Rattle.win_index.proofs.JobPlaces.{jobs_are_below, job_at}
use Rattle.win_index.proofs.Kept.{slice_get-append_left, slice_get-append_right}

-- the position of a block of a level among the jobs of the levels below k
pub record StandsAt (m k level block n : ℕ) : Type 0 where
  pub level_below : level < k
  pub block_below : block < block_count m level
  pub place : n ≡ length (jobs_below m level) + block

of_level :
    (m k level block i : ℕ) → slice_get (level_jobs m k) i ≡ Some (level, block)
    → (k ≡ level) × (i ≡ block) × (i < block_count m k)
of_level m k level block i e =
    let within = slice_get_within (level_jobs m k) i (level, block) e in
    let lt : i < block_count m k = omega (arith, length-level_jobs m k, within) in
    let parts = some_pair_parts k level i block (sym (level_job_at m k i lt) ∙ e) in
    (parts.0, parts.1, lt)

stands_below : (m k level block n : ℕ) → slice_get (jobs_below m k) n ≡ Some (level, block) → StandsAt m k level block n
stands_below m zero level block n e =
    absurd (omega (arith, slice_get_within (jobs_below m zero) n (level, block) e, no_jobs_below m))
stands_below m (suc k) level block n e =
    let one : suc k ≡ k + 1 = omega arith in
    let lower : List (ℕ × ℕ) = jobs_below m k in
    let split = rw (one, jobs_below_more m k) at e in
    ⊎_elim
    (λ (lt : n < length lower).
    let below = stands_below m k level block n (sym (slice_get-append_left lower (level_jobs m k) n lt) ∙ split) in
    record { level_below = omega (arith, below.level_below); block_below = below.block_below; place = below.place })
    (λ (le : length lower ≤ n).
    let i : ℕ = n - length lower in
    let own =
    of_level m k level block i
    (sym (slice_get-append_right lower (level_jobs m k) n i (omega arith)) ∙ split) in
    let here : n ≡ length lower + block = omega (arith, own.1) in
    record { level_below = omega (arith, own.0); block_below = rw (← own.0, ← own.1) own.2; place = rw own.0 at here })
    (cases_lt n (length lower))

pub stands_at : (m t level block n : ℕ) → slice_get (jobs_of m t) n ≡ Some (level, block) →
    StandsAt m (t + 1) level block n
stands_at m t level block n e =
    stands_below m (t + 1) level block n (ap (λ l. slice_get l n) (sym (jobs_are_below m t)) ∙ e)

-- no job occurs twice
is_only : (m t level block : ℕ) → IsOnly (is_job level block) (jobs_of m t) (level, block)
is_only m t level block =
    record {
      same = λ job. (
        λ e. let both = and_parts (eqb job.0 level) (eqb job.1 block) e in
            λ i. (eqb-true job.0 level both.0 i, eqb-true job.1 block both.1 i),
        λ e. let first : eqb job.0 level ≡ true = eq-eqb job.0 level (ap (λ (p : ℕ × ℕ). p.0) e) in
            let second : eqb job.1 block ≡ true = eq-eqb job.1 block (ap (λ (p : ℕ × ℕ). p.1) e) in
            rw (first, second),
      );
      once = λ i j at_i at_j.
          (stands_at m t level block i at_i).place ∙ sym (stands_at m t level block j at_j).place;
    }

pub number_of_job : (m t level block n : ℕ) →
    (job_number m t level block ≡ Some n) ↔ (slice_get (jobs_of m t) n ≡ Some (level, block))
unfolding job_number
number_of_job m t level block n = (position_some (is_only m t level block) n, position_is (is_only m t level block) n)

-- a block of a level has a number
pub job_number_at :
    (m t level block n : ℕ) → level ≤ t → block < block_count m level → n ≡ length (jobs_below m level) + block
    → job_number m t level block ≡ Some n
job_number_at m t level block n le lt e = (number_of_job m t level block n).1 (job_at m t level block n le lt e)

block_of : (m t level block n : ℕ) → slice_get (jobs_of m t) n ≡ Some (level, block) →
    (level ≤ t) × (block < block_count m level)
block_of m t level block n at' =
    let stands = stands_at m t level block n at' in
    (omega (arith, stands.level_below), stands.block_below)

pub job_number_none : (m t level block : ℕ) → ¬ ((level ≤ t) × (block < block_count m level)) →
    job_number m t level block ≡ None
unfolding job_number
job_number_none m t level block = position_none (is_only m t level block) _ (block_of m t level block)

pub has_job_number : (m t level block : ℕ) →
    IsSome (job_number m t level block) ↔ (level ≤ t) × (block < block_count m level)
unfolding job_number
has_job_number m t level block =
    has_position (is_only m t level block) _ (block_of m t level block)
    (λ own. (_, job_at m t level block (length (jobs_below m level) + block) own.0 own.1 refl))
