use Rattle.std.proofs.Common.{◌≡◌, ◌++◌, map, drop}
use Rattle.node_program.specs.Term.{term_of}
use Rattle.node_program.specs.Value.{env_of}
use Rattle.value_trees.specs.ValueTrees.{assigned_trees, tree_value}
use Rattle.value_trees.proofs.trees.push_assigned.Given as goal

-- the assignments that are left complete the trees
abbrev pub invariant-registers : goal.invariant-registers
invariant-registers l =
    map tree_value l.trees.items
    ++ assigned_trees l.round (env_of l.env) l.register (drop l.register (map term_of l.expressions))
    ≡ map tree_value l.initial.trees.items ++ assigned_trees l.round (env_of l.env) 0 (map term_of l.expressions)
