-- The blocks that a source knows, by level and number.
use Rattle.std.specs.Prelude.{◌≡◌, ℕ, Option, Some}
use Rattle.lang_check.specs.Plans.{ProgramForIds}
use Rattle.round_eval.specs.BlockStates.{MadeBlock}

abbrev pub Entries : Type 0
Entries = ℕ → ℕ → Option MadeBlock

-- no entry is lost or changed
pub record Grows (old new : Entries) : Type 0 where
  pub kept : (level number : ℕ) (b : MadeBlock) → old level number ≡ Some b → new level number ≡ Some b

-- a known block of this plan, at its own level and number
pub record IsEntry (plan : ProgramForIds) (entries : Entries) (level number : ℕ) (b : MadeBlock) : Type 0 where
  pub known : entries level number ≡ Some b
  pub plan_is : b.plan ≡ plan
  pub level_is : b.level ≡ level
  pub number_is : b.number ≡ number

-- a source after it was asked, by its plan, by what no call changes, and by its entries: it knows at least what it
-- knew, of the same plan
pub record Asked {S F : Type 0} (plan : S → ProgramForIds) (fixed : S → F) (entries : S
    → Entries) (old new : S) : Type 0 where
  pub same_plan : plan new ≡ plan old
  pub same_fixed : fixed new ≡ fixed old
  pub grows : Grows (entries old) (entries new)
