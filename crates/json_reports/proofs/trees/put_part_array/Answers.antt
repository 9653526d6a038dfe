use Rattle.std.proofs.Common.{map}
use Rattle.json_reports.specs.Json.{part_value as part_json}
use Rattle.value_trees.specs.ValueTrees.{part_value}
use Rattle.json_reports.proofs.Closings.{puts_array}
use Rattle.json_reports.proofs.trees.put_part_array.Goals as goal

pub returns : goal.returns
returns c =
    puts_array c.end_array.result _ _ _ _ (map part_json (map part_value c.args.parts.now))
    c.in_ok-begin_array.ensures c.in_ok-put_each_part.ensures c.end_array.ensures
