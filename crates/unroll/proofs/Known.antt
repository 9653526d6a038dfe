-- The blocks that a source knows while it is asked.
use Rattle.std.proofs.Common.{◌≡◌, ◌∙◌, ℕ, zero, suc, ◌+◌, ◌*◌, ◌≤◌, Option, Some, None, IsSome, IfSome, Result, Ok}
use Rattle.std.proofs.Common.{Err, IsErrAnd, List, [], slice_get, refl, sym, ap, arith}
use Rattle.std.proofs.lemmas.Bool.{false≢true}
use Rattle.std.proofs.lemmas.Option.{get_or_from_slice_get, same_Some}
use Rattle.win_index.specs.Windows.{windows, number_of}
use Rattle.unroll.specs.Below.{part}
use Rattle.round_eval.specs.BlockStates.{MadeBlock, window_numbered, block_len, block_state}
use Rattle.round_eval.specs.Line.{middle_state}
use Rattle.lang_check.specs.Plans.{ProgramForIds}
use Rattle.round_eval.specs.Entries.{Entries, Grows, Asked, IsEntry}
use Rattle.unroll.specs.MakeFaults.{KnowsAllBelow, IsMissingBelow, IsMakeFault, LooksUp}
use Rattle.unroll.specs.Parts.{HoldsWindow, KnowsPart, KnowsParts, KnowsBelow}
use Rattle.unroll.specs.declared.fault.MakeFault.{MakeFault}
use Rattle.unroll.specs.declared.fault.MakeFault.TheVariants.{Missing, OutOfMemory}
use Rattle.win_index.specs.declared.limits.TheConstants.{BLOCK_WINDOWS}

some_kept : (old new : Option MadeBlock) → ((b : MadeBlock) → old ≡ Some b → new ≡ Some b) → IsSome old → IsSome new
some_kept None new kept some = absurd (false≢true some)
some_kept (Some b) new kept some = rw (kept b refl) refl

-- known blocks stay known
pub still_known : (old new : Entries) (r c : ℕ) → Grows old new → IsSome (old r c) → IsSome (new r c)
still_known old new r c grows some = some_kept (old r c) (new r c) (grows.kept r c) some

pub grows_both : (old now new : Entries) → Grows old now → Grows now new → Grows old new
grows_both old now new first later =
    record { kept = λ level n block at'. later.kept level n block (first.kept level n block at') }

-- a source that was asked twice
pub asked_both :
    {S F : Type 0} {plan : S → ProgramForIds} {fixed : S → F} {entries : S → Entries} {old now new : S}
    → Asked plan fixed entries old now
    → Asked plan fixed entries now new → Asked plan fixed entries old new
asked_both {entries = entries} {old = old} {now = now} {new = new} first later =
    record {
      same_plan = later.same_plan ∙ first.same_plan;
      same_fixed = later.same_fixed ∙ first.same_fixed;
      grows = grows_both (entries old) (entries now) (entries new) first.grows later.grows;
    }

-- a block that was missing after the source had been asked
pub missing_later :
    {S F T U : Type 0} {plan : S → ProgramForIds} {fixed : S → F} {entries : S → Entries} {old now new : S} {m r b : ℕ}
    {first : Entries → T → Type 0} {finds : Entries → U → Type 0} {fault : MakeFault} (result : Result U MakeFault)
    → IsErrAnd result (λ same. same ≡ fault) → Asked plan fixed entries old now
    → LooksUp plan fixed entries now new m r b first (Err fault)
    → LooksUp plan fixed entries old new m r b finds result
missing_later (Ok item) is before missed = absurd is
missing_later (Err same) is before missed =
    record { asked = asked_both before missed.asked; found = tt; missing = rw is missed.missing }

-- the three parts of a window, with their blocks known
module _ (entries : Entries) (m low : ℕ) (w : List ℕ) where
  one_of_three : (d : ℕ) → d ≤ 2 → KnowsPart entries m low w 0 → KnowsPart entries m low w 1
      → KnowsPart entries m low w 2 → KnowsPart entries m low w d
  one_of_three zero le first middle last = first
  one_of_three (suc zero) le first middle last = middle
  one_of_three (suc (suc zero)) le first middle last = last
  one_of_three (suc (suc (suc d))) le first middle last = absurd (omega arith)

  pub knows_three : KnowsPart entries m low w 0 → KnowsPart entries m low w 1 → KnowsPart entries m low w 2
      → KnowsParts entries m low w
  knows_three first middle last = λ n is. one_of_three is.offset is.three first middle last n is.number_is

-- the window at an index of a block
pub window_at : (m r n : ℕ) (window : List ℕ) → slice_get (windows (2 * r + 1) m) n ≡ Some window
    → window_numbered m r n ≡ window
window_at m r n window at' = get_or_from_slice_get (windows (2 * r + 1) m) n window [] at'

-- a known block stays known
pub entry_grows : (plan : ProgramForIds) (old new : Entries) (level n : ℕ) (b : MadeBlock) → Grows old new
    → IsEntry plan old level n b → IsEntry plan new level n b
entry_grows plan old new level n b grows is =
    record { known = grows.kept level n b is.known; plan_is = is.plan_is; level_is = is.level_is; number_is = is.number_is }

-- a known block is known by its own number
pub own_entry : (plan : ProgramForIds) (entries : Entries) (level n : ℕ) (b : MadeBlock)
    → IsEntry plan entries level n b → IsEntry plan entries level b.number b
own_entry plan entries level n b is =
    record { known = ap (entries level) is.number_is ∙ is.known; plan_is = is.plan_is; level_is = is.level_is; number_is = refl }

-- a property of an option's value, or of another if it has none
pub if_some_more : {A : Type 0} (P Q : A → Type 0) (o : Option A) → ((a : A) → P a → Q a) → IfSome o P → IfSome o Q
if_some_more P Q None more is = tt
if_some_more P Q (Some a) more is = more a is

-- all blocks below a block are known if the parts of all its windows are
pub knows_all_below :
    (entries : Entries) (m r b : ℕ) → KnowsBelow entries m r b (block_len m r b) → KnowsAllBelow entries m r b
knows_all_below entries m r b all low c below =
    rw below.block_is (all low below.place below.one_lower below.inside below.number below.is_part)

-- a missing block is why a block was not made
pub missing_is_fault :
    {S : Type 0} (entries : S → Entries) (old new : S) (m r b : ℕ) (fault : MakeFault)
    → IsMissingBelow (entries new) m r b fault
    → IsMakeFault entries old new m r b fault
missing_is_fault entries old new m r b (Missing low c) missing = missing
missing_is_fault entries old new m r b OutOfMemory missing = absurd missing

-- the window with this number, in the block that holds it
pub state_held :
    (plan : ProgramForIds) (entries : Entries) (low n index : ℕ) (b : MadeBlock) (v : List ℕ)
    → HoldsWindow plan entries low n b index
    → slice_get (windows (2 * low + 1) plan.ids) n ≡ Some v
    → block_state plan low b.number index ≡ middle_state plan.program low v
state_held plan entries low n index b v holds at' =
    let number : BLOCK_WINDOWS * b.number + index ≡ n = omega (arith, holds.place, holds.block.number_is) in
    ap (middle_state plan.program low) (ap (window_numbered plan.ids low) number ∙ window_at plan.ids low n v at')

-- the block of a part is known if it holds the window with the part's number
pub part_known :
    (plan : ProgramForIds) (entries : Entries) (low n index d : ℕ) (b : MadeBlock) (w : List ℕ)
    → HoldsWindow plan entries low n b index
    → number_of (2 * low + 1) plan.ids (part w low d) ≡ Some n → KnowsPart entries plan.ids low w d
part_known plan entries low n index d b w holds number = λ k is.
    let same : k ≡ n = same_Some k n (sym is ∙ number) in
    rw (same, holds.block.known) refl
