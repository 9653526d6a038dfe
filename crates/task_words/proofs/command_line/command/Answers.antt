use Rattle.std.proofs.lemmas.Result.{IfOk-weaker}
use Rattle.task_words.proofs.Rows.{command_is}
use Rattle.task_words.proofs.command_line.command.Goals as goal

pub returns : goal.returns
returns c =
    IfOk-weaker c.args-2.result _ _
    (λ command. command_is c.described.result command c.args.row.now c.in_ok-options.options.items
    c.in_ok-options.ensures c.described.ensures.app c.described.ensures.local)
    c.args-2.ensures
