use Rattle.std.proofs.Common.{map}
use Rattle.json_reports.specs.Json.{round_value}
use Rattle.value_trees.specs.Rows.{rows_of_round}
use Rattle.json_reports.proofs.Closings.{puts_array}
use Rattle.json_reports.proofs.traces.put_round_array.Goals as goal

pub returns : goal.returns
returns c =
    puts_array c.end_array.result _ _ _ _ (map round_value (map rows_of_round c.args.rounds.now))
    c.in_ok-begin_array.ensures c.in_ok-put_each_round.ensures c.end_array.ensures
