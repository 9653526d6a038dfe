-- How many blocks of a plan are not known.
use Rattle.std.proofs.Common.{◌≡◌, ℕ, ◌<◌, ◌≤◌, List, [], ◌∷◌, zero, suc, cond, Some, None, Bool, true, false, length}
use Rattle.std.proofs.Common.{get_or, refl, arith}
use Rattle.std.specs.Prelude.{Option, is_some, is_none, count_by, slice_get}
use Rattle.std.proofs.lemmas.List.Sums.{sum_by-cons}
use Rattle.std.proofs.lemmas.Option.{slice_get_within, get_or_from_slice_get}
use Rattle.lang_check.specs.Plans.{ProgramForIds}
use Rattle.round_eval.specs.BlockStates.{MadeBlock}
use Rattle.round_eval.specs.Entries.{Entries, Grows}
use Rattle.win_index.specs.Jobs.{jobs_of}
use Rattle.win_index.specs.Laws.{JobsStandAtNumbers, BlocksHaveJobs}
use Rattle.shared_memo.specs.PlanJobs.{IsKey, job_of}

-- the number of jobs of the plan whose block is not known
abbrev pub unknown_count : ProgramForIds → Entries → ℕ
unknown_count plan entries =
    count_by (λ job. is_none (entries job.0 job.1)) (jobs_of plan.ids (length plan.program.steps))

cond_le : (a b : Bool) → (a ≡ true → b ≡ true) → cond a 1 0 ≤ cond b 1 0
cond_le true b follows = rw (follows refl) (omega arith)
cond_le false b follows = omega arith

cond_one : (b : Bool) → b ≡ true → cond b 1 0 ≡ suc zero
cond_one b is = rw is refl

cond_none : (b : Bool) → b ≡ false → cond b 1 0 ≡ zero
cond_none b is = rw is refl

module _ {X : Type 0} (p q : X → Bool) (follows : (x : X) → q x ≡ true → p x ≡ true) where
  -- a weaker test counts at least as many
  count_le : (xs : List X) → count_by q xs ≤ count_by p xs
  count_le [] = omega arith
  count_le (x ∷ xs) = omega (arith, count_le xs, cond_le (q x) (p x) (follows x), sum_by-cons (λ y. cond (q y) 1 0) x xs, sum_by-cons (λ y. cond (p y) 1 0) x xs)

  -- and more, if it holds of an item of which the other does not
  count_lt : (xs : List X) (i : ℕ) (d : X) → i < length xs → p (get_or xs i d) ≡ true → q (get_or xs i d) ≡ false
      → count_by q xs < count_by p xs
  count_lt [] i d within holds fails = absurd (omega (arith, within))
  count_lt (x ∷ xs) zero d within holds fails =
      omega (arith, count_le xs, cond_one (p x) holds, cond_none (q x) fails, sum_by-cons (λ y. cond (q y) 1 0) x xs, sum_by-cons (λ y. cond (p y) 1 0) x xs)
  count_lt (x ∷ xs) (suc i) d within holds fails =
      omega (arith, count_lt xs i d (omega (arith, within)) holds fails, cond_le (q x) (p x) (follows x), sum_by-cons (λ y. cond (q y) 1 0) x xs, sum_by-cons (λ y. cond (p y) 1 0) x xs)

-- what is not known later was not known before
was_none : (old new : Option MadeBlock) → ((b : MadeBlock) → old ≡ Some b → new ≡ Some b) → is_none new ≡ true
    → is_none old ≡ true
was_none None new kept none = refl
was_none (Some b) new kept none = absurd (let same = kept b refl in cc)

-- no block less is known
unknown_le : (plan : ProgramForIds) (old new : Entries) → Grows old new
    → unknown_count plan new ≤ unknown_count plan old
unknown_le plan old new grows =
    count_le (λ job. is_none (old job.0 job.1)) (λ job. is_none (new job.0 job.1))
    (λ job. was_none (old job.0 job.1) (new job.0 job.1) (grows.kept job.0 job.1))
    (jobs_of plan.ids (length plan.program.steps))

not_none : (o : Option MadeBlock) → is_some o ≡ true → is_none o ≡ false
not_none None some = absurd (cc)
not_none (Some b) some = refl

-- one block more is known
fewer_unknown :
    JobsStandAtNumbers → BlocksHaveJobs → (plan : ProgramForIds) (old new : Entries) (level number : ℕ) → Grows old new
    → IsKey plan level number
    → old level number ≡ None → is_some (new level number) ≡ true → unknown_count plan new < unknown_count plan old
fewer_unknown stand have plan old new level number grows key unknown known =
    found (job_of plan level number) refl ((have plan.ids (length plan.program.steps) level number).1 key)
  where
    found : (o : Option ℕ) → job_of plan level number ≡ o → is_some o ≡ true
        → unknown_count plan new < unknown_count plan old
    found None is some = absurd (cc)
    found (Some n) is some =
        let jobs : List (ℕ × ℕ) = jobs_of plan.ids (length plan.program.steps) in
        let at : slice_get jobs n ≡ Some (level, number) =
        (stand plan.ids (length plan.program.steps) level number n).0 is in
        let item : get_or jobs n (level, number) ≡ (level, number) =
        get_or_from_slice_get jobs n (level, number) (level, number) at in
        count_lt (λ job. is_none (old job.0 job.1)) (λ job. is_none (new job.0 job.1))
        (λ job. was_none (old job.0 job.1) (new job.0 job.1) (grows.kept job.0 job.1)) jobs n (level, number)
        (slice_get_within jobs n (level, number) at) (rw (item, unknown) refl)
        (rw item (not_none (new level number) known))

-- after an attempt, which missed this block, and one that made it
pub fewer_after :
    JobsStandAtNumbers → BlocksHaveJobs → (p q r : ProgramForIds) (old now new : Entries) (level number : ℕ) → q ≡ p
    → r ≡ q → Grows old now → Grows now new
    → IsKey q level number → now level number ≡ None → is_some (new level number) ≡ true
    → unknown_count r new < unknown_count p old
fewer_after stand have p q r old now new level number same again first later key unknown known =
    let fewer : unknown_count p new < unknown_count p now =
    fewer_unknown stand have p now new level number later (rw same at key) unknown known in
    let before : unknown_count p now ≤ unknown_count p old = unknown_le p old now first in
    let less : unknown_count p new < unknown_count p old = omega (arith, fewer, before) in
    rw (again, same) less
