use Rattle.std.proofs.lemmas.Result.{IfOk-weaker}
use Rattle.task_words.proofs.Rows.{commands_added}
use Rattle.task_words.proofs.command_line.with_commands.Goals as goal

pub returns : goal.returns
returns c =
    IfOk-weaker c.subcommands.result _ _
    (λ line added. commands_added _ c.in_ok-program.field-0 line c.args.rows.now c.in_ok-commands.commands.items c.in_ok-commands.ensures c.in_ok-program.ensures added)
    c.subcommands.ensures
