use Rattle.std.proofs.Common.{◌+◌, ◌++◌, map, drop, string_bytes, append_assoc, sym, ap, ◌∙◌}
use Rattle.node_lang.proofs.Texts.{next_item}
use Rattle.value_trees.specs.ValueTrees.{tree_value}
use Rattle.value_trees.specs.ToldTrees.{told_tree, told_trees}
use Rattle.value_trees.proofs.explanation.write_trees.Goals as goal

-- One more tree was written.
pub trees-preserved : goal.trees-preserved
trees-preserved c =
    let b = c.args.base in
    let k = c.trees.tree-index in
    let e = c.tree-item in
    let next = next_item tree_value c.args.trees.now k e.result c.trees-test.true e.is in
    let before = string_bytes c.trees.text in
    let left = told_trees b (drop (k + 1) (map tree_value c.args.trees.now)) in
    ap (λ l. l ++ left) c.in_ok-write_tree.ensures
    ∙ append_assoc before (told_tree b (tree_value e.result)) left
    ∙ ap (λ trees. before ++ told_trees b trees) (sym next)
    ∙ c.trees.invariant
