use Rattle.std.proofs.Common.{map}
use Rattle.json_reports.specs.Json.{tree_value as tree_json}
use Rattle.value_trees.specs.ValueTrees.{tree_value}
use Rattle.json_reports.proofs.Closings.{puts_array}
use Rattle.json_reports.proofs.trees.put_tree_array.Goals as goal

pub returns : goal.returns
returns c =
    puts_array c.end_array.result _ _ _ _ (map tree_json (map tree_value c.args.trees.now))
    c.in_ok-begin_array.ensures c.in_ok-put_each_tree.ensures c.end_array.ensures
