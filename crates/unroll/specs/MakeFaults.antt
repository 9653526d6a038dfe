-- What making a block leaves of its source, and the result.
use Rattle.std.specs.Prelude.{◌≡◌, ℕ, None, IsSome, Result, IfOk, IfErr, MatchResult}
use Rattle.lang_check.specs.Plans.{ProgramForIds}
use Rattle.unroll.specs.Below.{IsBelow}
use Rattle.round_eval.specs.BlockStates.{MadeBlock}
use Rattle.round_eval.specs.Entries.{Asked, Entries}
use Rattle.unroll.specs.declared.fault.MakeFault.{MakeFault}
use Rattle.unroll.specs.declared.fault.MakeFault.TheVariants.{Missing, OutOfMemory}

-- every block below block b of level r is known
abbrev pub KnowsAllBelow : Entries → ℕ → ℕ → ℕ → Type 0
KnowsAllBelow entries m r b = (low c : ℕ) → IsBelow m r b low c → IsSome (entries low c)

-- the fault is that a block below block b of level r is not known
abbrev pub IsMissingBelow : Entries → ℕ → ℕ → ℕ → MakeFault → Type 0
IsMissingBelow entries m r b (Missing low c) = IsBelow m r b low c × (entries low c ≡ None)
IsMissingBelow entries m r b OutOfMemory = ⊥

-- the block of this plan, level, number and maker, made from known blocks
pub record IsMadeFrom (entries : Entries) (plan : ProgramForIds) (level number maker : ℕ) (b : MadeBlock) : Type 0 where
  pub plan_is : b.plan ≡ plan
  pub level_is : b.level ≡ level
  pub number_is : b.number ≡ number
  pub maker_is : b.maker ≡ maker
  pub known : KnowsAllBelow entries plan.ids level number

-- why a block was not made from a source: a block below it is not known, or memory was refused, and the source is
-- unchanged
abbrev pub IsMakeFault : {S : Type 0} → (S → Entries) → S → S → ℕ → ℕ → ℕ → MakeFault → Type 0
IsMakeFault entries old new m r b (Missing low c) = IsBelow m r b low c × (entries new low c ≡ None)
IsMakeFault entries old new m r b OutOfMemory = new ≡ old

-- the result of making the block of this level, number and maker from a source: the block, with every block below it
-- known, or why it was not made
abbrev pub IsMade : {S : Type 0} → (S → Entries) → S → S → ProgramForIds → ℕ → ℕ → ℕ
    → Result MadeBlock MakeFault → Type 0
IsMade entries old new plan level number maker result =
    MatchResult result (IsMadeFrom (entries new) plan level number maker)
    (IsMakeFault entries old new plan.ids level number)

-- a source after a block of this level was made from it: it was asked, unless the level is 0
pub record AskedFor {S F : Type 0} (level : ℕ) (plan : S → ProgramForIds) (fixed : S → F) (entries : S
    → Entries) (old new : S) : Type 0 where
  pub asked : Asked plan fixed entries old new
  pub not_for_0 : level ≡ 0 → new ≡ old

-- A call that looks up blocks below block b of level r in a source: the source was asked, and the result is what
-- the call `finds`, by the entries that the source has now, or that one of these blocks is not known.
pub record LooksUp
    {S F T : Type 0} (plan : S → ProgramForIds) (fixed : S → F) (entries : S → Entries) (old new : S) (m r b : ℕ)
    (finds : Entries → T → Type 0) (result : Result T MakeFault)
    : Type 0 where
  pub asked : Asked plan fixed entries old new
  pub found : IfOk result (finds (entries new))
  pub missing : IfErr result (IsMissingBelow (entries new) m r b)
