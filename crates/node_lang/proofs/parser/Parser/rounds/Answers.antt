use Rattle.node_lang.proofs.Parsing.{one_read}
use Rattle.node_lang.proofs.parser.Parser.rounds.Goals as goal

pub rounds-preserved : goal.rounds-preserved
rounds-preserved c =
    one_read c.in_ok-step.step c.rounds-test.true c.rounds.invariant c.in_ok-step.ensures c.in_ok-push.ensures.items
