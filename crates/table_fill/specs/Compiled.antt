-- What a compilation returns: a table, or a fault.
use Rattle.std.specs.Prelude.{◌≡◌, ℕ, ◌<◌, List, length, Some}
use Rattle.node_program.specs.GlobalRounds.{channel_at}
use Rattle.win_index.specs.Arcs.{window_around}
use Rattle.win_index.specs.Ring.{IsRing}
use Rattle.lang_check.specs.Plans.{ProgramForIds}
use Rattle.channel_tables.specs.Tables.{ChannelTable, channel_of}
use Rattle.table_fill.specs.ProgramTables.{table_of}
use Rattle.shared_memo.specs.declared.pass.Pass.{Pass}
use Rattle.shared_memo.specs.Passes.{known}
use Rattle.table_fill.specs.declared.fault.FillFault.{FillFault}
use Rattle.table_fill.specs.declared.fault.FillFault.TheVariants.{WorkersOutOfRange, OutOfMemory, Stranger, NoThread}
use Rattle.shared_memo.specs.Filled.{KnowsAll, HasGap}

-- the table of the plan's program, beside a pass that knows all blocks of the plan
pub record IsCompiled (plan : ProgramForIds) (pass : Pass) (table : ChannelTable) : Type 0 where
  pub all_known : KnowsAll plan (known pass)
  pub table_is : table ≡ table_of plan.program plan.ids
  -- on every ring, its channel at the window of a place is the channel of that place after all rounds
  pub channels : (ring : List ℕ) (place : ℕ) → IsRing plan.ids (length plan.program.steps) ring → place < length ring
      → channel_of table (window_around ring (length plan.program.steps) place)
      ≡ Some (channel_at plan.program ring place)

-- what a fault says of the caller's pass before and after: a cell of the plan in which it, or a worker that it has
-- learned from, has found no block or a stranger; with each other fault it is unchanged
abbrev pub IsCompileFault : ProgramForIds → Pass → Pass → FillFault → Type 0
IsCompileFault plan old new Stranger = HasGap plan new
IsCompileFault plan old new WorkersOutOfRange = new ≡ old
IsCompileFault plan old new OutOfMemory = new ≡ old
IsCompileFault plan old new NoThread = new ≡ old
