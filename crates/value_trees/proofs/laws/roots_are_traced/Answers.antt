use Rattle.value_trees.proofs.PartLines.{trees_show}
use Rattle.value_trees.proofs.Roots.{sent}
use Rattle.value_trees.proofs.laws.roots_are_traced.Goals as goal

pub returns-clause-trees : goal.returns-clause-trees
returns-clause-trees c = trees_show

pub returns-clause-sent : goal.returns-clause-sent
returns-clause-sent c = sent
