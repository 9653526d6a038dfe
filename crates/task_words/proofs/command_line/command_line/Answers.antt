use Rattle.task_words.proofs.command_line.command_line.Goals as goal

pub returns : goal.returns
returns c = c.with_commands.ensures
