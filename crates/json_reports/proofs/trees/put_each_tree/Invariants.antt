use Rattle.std.proofs.Common.{◌≡◌, ◌++◌, map, take}
use Rattle.json_reports.specs.Values.{value_tokens}
use Rattle.json_reports.specs.Json.{tree_value as tree_json}
use Rattle.value_trees.specs.ValueTrees.{tree_value}
use Rattle.json_reports.proofs.trees.put_each_tree.Given as goal

-- those so far were appended
abbrev pub invariant-loop-tree : goal.invariant-loop-tree
invariant-loop-tree l =
    (l.writer.tokens ≡ l.initial.writer.tokens
    ++ value_tokens (map tree_json (map tree_value (take l.tree-index l.trees))))
    × (l.writer.before ≡ l.initial.writer.before)
