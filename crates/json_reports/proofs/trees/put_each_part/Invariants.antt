use Rattle.std.proofs.Common.{◌≡◌, ◌++◌, map, take}
use Rattle.json_reports.specs.Values.{value_tokens}
use Rattle.json_reports.specs.Json.{part_value as part_json}
use Rattle.value_trees.specs.ValueTrees.{part_value}
use Rattle.json_reports.proofs.trees.put_each_part.Given as goal

-- those so far were appended
abbrev pub invariant-loop-part : goal.invariant-loop-part
invariant-loop-part l =
    (l.writer.tokens ≡ l.initial.writer.tokens
    ++ value_tokens (map part_json (map part_value (take l.part-index l.parts))))
    × (l.writer.before ≡ l.initial.writer.before)
