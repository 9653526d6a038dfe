use Rattle.std.proofs.Common.{◌≡◌, ◌++◌, map, drop, string_bytes}
use Rattle.std.specs.List.{flat_map}
use Rattle.value_trees.specs.ValueTrees.{part_value}
use Rattle.value_trees.specs.ToldTrees.{told_value}
use Rattle.value_trees.proofs.tree.write_lines.Given as goal

-- the parts that are left complete the text
abbrev pub invariant-parts : goal.invariant-parts
invariant-parts l =
    string_bytes l.text ++ flat_map (told_value l.form) (drop l.part-index (map part_value l.parts))
    ≡ string_bytes l.initial.text ++ flat_map (told_value l.form) (map part_value l.parts)
