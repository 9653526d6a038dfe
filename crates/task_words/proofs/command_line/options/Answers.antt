use Rattle.std.proofs.Common.{ap₂}
use Rattle.task_words.specs.Rows.{facts_of_option}
use Rattle.task_words.proofs.Rows.{facts_more}
use Rattle.task_words.proofs.command_line.options.Goals as goal

pub options-preserved : goal.options-preserved
options-preserved c =
    facts_more facts_of_option _ c.options.options.items _ c.option.result c.args.rows.now c.options.row-index _ c.options-test.true c.options.invariant
    (ap₂ (λ rule shared. (rule, shared)) c.option.ensures.rule c.option.ensures.local) c.in_ok-push.ensures.items
