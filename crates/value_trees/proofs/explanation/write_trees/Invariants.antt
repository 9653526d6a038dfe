use Rattle.std.proofs.Common.{◌≡◌, ◌++◌, map, drop, string_bytes}
use Rattle.value_trees.specs.ValueTrees.{tree_value}
use Rattle.value_trees.specs.ToldTrees.{told_trees}
use Rattle.value_trees.proofs.explanation.write_trees.Given as goal

-- the trees that are left complete the text
abbrev pub invariant-trees : goal.invariant-trees
invariant-trees l =
    string_bytes l.text ++ told_trees l.base (drop l.tree-index (map tree_value l.trees))
    ≡ string_bytes l.initial.text ++ told_trees l.base (map tree_value l.trees)
