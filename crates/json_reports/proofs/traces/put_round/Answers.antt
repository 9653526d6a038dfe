use Rattle.json_reports.specs.Json.{round_fields}
use Rattle.value_trees.specs.Rows.{rows_of_round}
use Rattle.json_reports.proofs.Closings.{puts_object}
use Rattle.json_reports.proofs.traces.put_round.Goals as goal

pub returns : goal.returns
returns c =
    puts_object c.end_object.result _ _ _ _ (round_fields (rows_of_round c.args.round.now))
    c.in_ok-begin_object.ensures c.in_ok-put_round_fields.ensures c.end_object.ensures
