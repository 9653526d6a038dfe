use Rattle.json_reports.specs.Json.{part_fields}
use Rattle.value_trees.specs.ValueTrees.{part_value}
use Rattle.json_reports.proofs.Closings.{puts_object}
use Rattle.json_reports.proofs.trees.put_part.Goals as goal

pub returns : goal.returns
returns c =
    puts_object c.end_object.result _ _ _ _ (part_fields (part_value c.args.part.now))
    c.in_ok-begin_object.ensures c.in_ok-put_part_fields.ensures c.end_object.ensures
