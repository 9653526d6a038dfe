use Rattle.std.proofs.Common.{◌≡◌, map, take}
use Rattle.value_trees.specs.ValueTrees.{part_value}
use Rattle.value_trees.specs.ToldTrees.{part_values}
use Rattle.value_trees.proofs.tree.values_of.Given as goal

-- the values of the parts before this one
abbrev pub invariant-parts : goal.invariant-parts
invariant-parts l = l.values.items ≡ part_values (map part_value (take l.part-index l.parts))
