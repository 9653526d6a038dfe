use Rattle.std.proofs.Common.{◌++◌, map, ap, ◌∙◌}
use Rattle.value_trees.specs.ValueTrees.{tree_value}
use Rattle.value_trees.specs.ToldTrees.{told_trees}
use Rattle.value_trees.proofs.ToldTrees.{explanation_told}
use Rattle.value_trees.proofs.explanation.explanation_text.Goals as goal

pub returns : goal.returns
returns c =
    let trees = ap (map tree_value) c.deref.ensures.value ∙ c.in_ok-trees.ensures in
    c.in_ok-write_trees.ensures
    ∙ (λ k. c.new-text.ensures.bytes k ++ told_trees c.args.base (trees k))
    ∙ explanation_told c.args.base c.args.plan.now.program c.args.ring.now.places c.args.place
