-- What a pass has learned, what it knows once a worker has filled its jobs, and once all cells are full, and what
-- it lacks.
use Rattle.std.specs.Prelude.{◌≡◌, ℕ, ◌<◌, List, Some, IfSome, IsSomeAnd, All, true, is_some}
use Rattle.win_index.specs.Blocks.{block_count}
use Rattle.lang_check.specs.Plans.{ProgramForIds}
use Rattle.round_eval.specs.Entries.{Entries, Grows}
use Rattle.shared_memo.specs.declared.memo.Memo.{Memo}
use Rattle.shared_memo.specs.declared.pass.Pass.{Pass}
use Rattle.shared_memo.specs.Passes.{known, last_look, IsPassOf}
use Rattle.shared_memo.specs.PlanJobs.{IsKey, IsStranger, job_of}

-- a pass of this memo that knows at least what it knew before
abbrev pub HasLearned : Memo → Pass → Pass → Type 0
HasLearned memo old new = IsPassOf memo new × Grows (known old) (known new)

-- the block of each of these jobs
abbrev pub AreKnown : ProgramForIds → Entries → List ℕ → Type 0
AreKnown plan entries jobs =
    All (λ job. (level number : ℕ) → job_of plan level number ≡ Some job → is_some (entries level number) ≡ true) jobs

-- a block at each number of a level
abbrev pub KnowsLevel : ProgramForIds → Entries → ℕ → Type 0
KnowsLevel plan entries level = (number : ℕ) → number < block_count plan.ids level
    → is_some (entries level number) ≡ true

-- a block at each level and number of the plan
abbrev pub KnowsAll : ProgramForIds → Entries → Type 0
KnowsAll plan entries = (level number : ℕ) → IsKey plan level number → is_some (entries level number) ≡ true

-- the pass has looked at the cell of this level and number, and found it empty or found a stranger
abbrev pub LacksBlock : ProgramForIds → Pass → ℕ → ℕ → Type 0
LacksBlock plan pass level number = IsSomeAnd (last_look pass level number)
    (λ found. IfSome found (IsStranger plan level number))

-- the pass has looked at the cell of this level and number, and found a stranger
abbrev pub FoundStranger : ProgramForIds → Pass → ℕ → ℕ → Type 0
FoundStranger plan pass level number = IsSomeAnd (last_look pass level number)
    (λ found. IsSomeAnd found (IsStranger plan level number))

-- the pass lacks a block of the plan
pub record HasGap (plan : ProgramForIds) (pass : Pass) : Type 0 where
  pub level : ℕ
  pub number : ℕ
  pub key : IsKey plan level number
  pub lacks : LacksBlock plan pass level number

-- the pass has found a stranger in a cell of the plan
pub record MetStranger (plan : ProgramForIds) (pass : Pass) : Type 0 where
  pub level : ℕ
  pub number : ℕ
  pub key : IsKey plan level number
  pub found : FoundStranger plan pass level number
