use Rattle.json_reports.specs.Json.{tree_fields}
use Rattle.value_trees.specs.ValueTrees.{tree_value}
use Rattle.json_reports.proofs.Closings.{puts_object}
use Rattle.json_reports.proofs.trees.put_tree.Goals as goal

pub returns : goal.returns
returns c =
    puts_object c.end_object.result _ _ _ _ (tree_fields (tree_value c.args.tree.now))
    c.in_ok-begin_object.ensures c.in_ok-put_tree_fields.ensures c.end_object.ensures
