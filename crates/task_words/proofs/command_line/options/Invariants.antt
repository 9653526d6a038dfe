use Rattle.std.proofs.Common.{take}
use Rattle.task_words.specs.Rows.{AreOptionsOf}
use Rattle.task_words.proofs.command_line.options.Given as goal

abbrev pub invariant-options : goal.invariant-options
invariant-options l = AreOptionsOf (take l.row-index l.rows) l.options.items
