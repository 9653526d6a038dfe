use Rattle.std.proofs.Common.{ap₂}
use Rattle.task_words.specs.Rows.{facts_of_command}
use Rattle.task_words.proofs.Rows.{facts_more}
use Rattle.task_words.proofs.command_line.commands.Goals as goal

pub commands-preserved : goal.commands-preserved
commands-preserved c = record {
  facts =
      facts_more facts_of_command _ c.commands.commands.items _ c.in_ok-command.field-0 c.args.rows.now c.commands.row-index _ c.commands-test.true c.commands.invariant.facts
      (ap₂ (λ shape shared. (shape, shared)) c.in_ok-command.ensures.0 c.in_ok-command.ensures.1) c.in_ok-push.ensures.items;
}
