use Rattle.std.proofs.Common.{◌≡◌, ◌++◌, map, drop}
use Rattle.node_program.specs.Term.{step_of}
use Rattle.value_trees.specs.ValueTrees.{trees_of_rounds, tree_value}
use Rattle.value_trees.proofs.trees.push_rounds.Given as goal

-- the rounds that are left complete the trees
abbrev pub invariant-rounds : goal.invariant-rounds
invariant-rounds l = record {
  done : l.places ≡ record l.fn.places { round = l.done };
  trees : map tree_value l.trees.items
      ++ trees_of_rounds l.fn.places.program l.fn.places.places l.explained.place l.done
      (drop l.done (map step_of l.rounds))
      ≡ map tree_value l.initial.trees.items
      ++ trees_of_rounds l.fn.places.program l.fn.places.places l.explained.place 0 (map step_of l.rounds);
}
