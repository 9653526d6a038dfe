use Rattle.std.proofs.Common.{take}
use Rattle.task_words.specs.Rows.{AreCommandsOf}
use Rattle.task_words.proofs.command_line.commands.Given as goal

abbrev pub invariant-commands : goal.invariant-commands
invariant-commands l = AreCommandsOf (take l.row-index l.rows) l.commands.items
