-- The answers of a source of known cells.
use Rattle.std.proofs.Common.{◌≡◌, ℕ, subst, Bool, true, false, cond, List, Option, Some, None, IsSome, length, get_or}
use Rattle.std.proofs.Common.{refl, sym, ap, ◌∙◌}
use Rattle.std.proofs.lemmas.Bool.{false≢true}
use Rattle.std.proofs.lemmas.Option.{some_pair_parts}
use Rattle.win_index.specs.Laws.{JobsStandAtNumbers}
use Rattle.lang_check.specs.Plans.{ProgramForIds}
use Rattle.shared_memo.specs.PlanJobs.{job_of, IsKeyedBlock}
use Rattle.unroll.specs.Below.{IsBelow}
use Rattle.round_eval.specs.BlockStates.{MadeBlock}
use Rattle.round_eval.specs.Entries.{IsEntry}
use Rattle.fill_core.specs.FillMachine.{cell_of, is_marked, MarksBelow, block_by}
use Rattle.fill_core.specs.FillPromises.{HoldsJobs, MarkedAreFull}
use Rattle.fill_core.specs.KnownCells.{known_cell, known_entries}

-- the block in a full cell is of the plan and has its level and number
pub keyed :
    (plan : ProgramForIds) (cells : List (Option MadeBlock)) (level number job : ℕ) (b : MadeBlock)
    (law : JobsStandAtNumbers)
    → HoldsJobs plan cells → job_of plan level number ≡ Some job → get_or cells job None ≡ Some b
    → IsKeyedBlock plan level number b
keyed plan cells level number job b law holds job_is full =
    let t : ℕ = length plan.program.steps in
    let own = holds.filled job b full in
    let key = some_pair_parts b.level level b.number number (sym ((law plan.ids t b.level b.number job).0 own.1)
    ∙ (law plan.ids t level number job).0 job_is) in
    (own.0, key.0, key.1)

pub entry_is :
    (plan : ProgramForIds) (cells : List (Option MadeBlock)) (marks : List Bool) (level number job : ℕ) (b : MadeBlock)
    (law : JobsStandAtNumbers)
    → HoldsJobs plan cells → job_of plan level number ≡ Some job → get_or marks job false ≡ true
    → get_or cells job None ≡ Some b
    → IsEntry plan (known_entries plan cells marks) level number b
entry_is plan cells marks level number job b law holds job_is known full =
    let own = keyed plan cells level number job b law holds job_is full in
    record {
      known = ap (known_cell cells marks) job_is ∙ ap (λ (k : Bool). cond k (get_or cells job None) None) known ∙ full;
      plan_is = own.0;
      level_is = own.1;
      number_is = own.2;
    }

cond_is : (k : Bool) (o : Option MadeBlock) → IsSome (cond k o None) → k ≡ true
cond_is true o some = refl
cond_is false o some = absurd (false≢true some)

-- if the source has each block below, all are marked
pub all_below :
    (plan p : ProgramForIds) (cells : List (Option MadeBlock)) (marks : List Bool) (level number : ℕ) → p ≡ plan
    → ((low c : ℕ) → IsBelow plan.ids level number low c → IsSome (known_entries p cells marks low c))
    → MarksBelow plan marks level number
all_below plan p cells marks level number same some = λ low c below.
    ap (λ (q : ProgramForIds). is_marked marks (job_of q low c)) (sym same)
    ∙ cond_is (is_marked marks (job_of p low c)) (cell_of cells (job_of p low c)) (some low c below)

missed :
    (cells : List (Option MadeBlock)) (marks : List Bool) (o : Option ℕ) → MarkedAreFull cells marks
    → known_cell cells marks o ≡ None
    → is_marked marks o ≡ true → ⊥
missed cells marks None full none marked = false≢true marked
missed cells marks (Some job) full none marked =
    let empty : get_or cells job None ≡ None =
    sym (ap (λ (k : Bool). cond k (get_or cells job None) None) marked) ∙ none in
    false≢true (subst (λ (o : Option MadeBlock). IsSome o) empty (full job marked))

-- a block below that the source lacks is not marked
pub missing_below :
    (plan p : ProgramForIds) (cells : List (Option MadeBlock)) (marks : List Bool) (level number low c : ℕ) → p ≡ plan
    → MarkedAreFull cells marks
    → IsBelow plan.ids level number low c → known_entries p cells marks low c ≡ None
    → ¬ MarksBelow plan marks level number
missing_below plan p cells marks level number low c same full below none = λ all.
    missed cells marks (job_of p low c) full none (ap (λ (q : ProgramForIds). is_marked marks (job_of q low c)) same
    ∙ all low c below)

pub same_block :
    (plan : ProgramForIds) (level number maker : ℕ) (b : MadeBlock) → b.plan ≡ plan → b.level ≡ level
    → b.number ≡ number → b.maker ≡ maker
    → b ≡ block_by plan level number maker
same_block plan level number maker b p l n w = λ i. record { plan = p i; level = l i; number = n i; maker = w i }
