-- The effect of asking a reader for a block.
use Rattle.std.specs.Prelude.{◌≡◌, ℕ, Bool, true, false, None, Some, IsSomeAnd}
use Rattle.round_eval.specs.BlockStates.{MadeBlock}
use Rattle.round_eval.specs.Entries.{Asked}
use Rattle.shared_memo.specs.declared.reader.Reader.{Reader}
use Rattle.shared_memo.specs.PlanJobs.{IsStranger}
use Rattle.shared_memo.specs.Passes.{known, seen, LearnsAt, KnowsSame}

-- whether the reader has met a stranger
abbrev pub met_stranger : Reader → Bool
met_stranger r = r.stranger

-- a reader as a source that was asked
abbrev pub AskedReader : Reader → Reader → Type 0
AskedReader =
    Asked (λ (r : Reader). r.pass.now.plan.now) (λ (r : Reader). r.memo.now) (λ (r : Reader). known r.pass.now)

-- a reader before and after it was asked for the block of a level and a number; `found` says whether it returned one
pub record Asks (level number : ℕ) (found : Bool) (old new : Reader) : Type 0 where
  pub same_reference : new.pass.ghost_name ≡ old.pass.ghost_name
  -- at most this block is learnt, and nothing if none is returned
  pub learns : LearnsAt level number (known old.pass.now) (known new.pass.now)
  pub missed : found ≡ false → KnowsSame (known old.pass.now) (known new.pass.now)
  -- a block that was known is returned
  pub known_found : (b : MadeBlock) → known old.pass.now level number ≡ Some b → found ≡ true
  -- the mark of a stranger stays once it is set, and a returned block leaves it unchanged
  pub mark_stays : met_stranger old ≡ true → met_stranger new ≡ true
  pub mark_as_was : found ≡ true → met_stranger new ≡ met_stranger old
  -- if the mark was set, a block that was not known is not returned
  pub only_known : met_stranger old ≡ true → known old.pass.now level number ≡ None → found ≡ false
  -- if none is returned, an empty cell was seen, or the mark is set
  pub marked : found ≡ false → met_stranger new ≡ false → seen new.pass.now level number ≡ None
  -- if the mark was set by this, a stranger was seen
  pub only_stranger : met_stranger old ≡ false → met_stranger new ≡ true
      → IsSomeAnd (seen new.pass.now level number) (IsStranger new.pass.now.plan.now level number)
