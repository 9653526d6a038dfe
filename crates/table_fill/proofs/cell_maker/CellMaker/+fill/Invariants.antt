use Rattle.shared_memo.specs.Passes.{known}
use Rattle.table_fill.specs.Cells.{GoesOn}
use Rattle.table_fill.proofs.Unknown.{unknown_count}
use Rattle.table_fill.proofs.cell_maker.CellMaker.+fill.Given as goal

abbrev pub decreases-fill : goal.decreases-fill
decreases-fill l = l.level

abbrev pub invariant-attempt : goal.invariant-attempt
invariant-attempt l = GoesOn l.fn.self l.self

-- each attempt knows a block more
abbrev pub decreases-attempt : goal.decreases-attempt
decreases-attempt l = unknown_count l.self.reader.pass.plan.now (known l.self.reader.pass)
