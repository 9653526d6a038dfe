-- A worker's view of the cells of a memo, before and after a call, and a block that it misses. No public contract cites
-- this file.
use Rattle.std.specs.Prelude.{◌≡◌, ℕ, ◌<◌, None}
use Rattle.round_eval.specs.Entries.{Entries, Grows}
use Rattle.shared_memo.specs.Passes.{known}
use Rattle.table_fill.specs.declared.cell_maker.CellMaker.{CellMaker}
use Rattle.lang_check.specs.Plans.{ProgramForIds}
use Rattle.unroll.specs.declared.fault.MakeFault.{MakeFault}
use Rattle.unroll.specs.declared.fault.MakeFault.TheVariants.{Missing, OutOfMemory}
use Rattle.shared_memo.specs.PlanJobs.{IsKey}

-- the same memo and plan, and each block that was known still is
pub record GoesOn (old new : CellMaker) : Type 0 where
  pub same_memo : new.reader.memo.now ≡ old.reader.memo.now
  pub same_plan : new.reader.pass.plan.now ≡ old.reader.pass.plan.now
  pub grows : Grows (known old.reader.pass) (known new.reader.pass)

-- if the fault names a block, it is a block of the plan of a lower level, which is not known
abbrev pub NamesUnknownBelow : ProgramForIds → Entries → ℕ → MakeFault → Type 0
NamesUnknownBelow plan entries level (Missing low number) = (low < level) × IsKey plan low number
    × (entries low number ≡ None)
NamesUnknownBelow plan entries level OutOfMemory = Unit {0}
