use Rattle.std.proofs.Common.{◌+◌, ◌++◌, map, drop, ap, sym, ◌∙◌}
use Rattle.node_program.specs.Term.{term_of}
use Rattle.node_program.specs.Value.{env_of}
use Rattle.node_lang.proofs.Texts.{next_item}
use Rattle.value_trees.specs.declared.trees.Given.TheVariants.{Register}
use Rattle.value_trees.specs.ValueTrees.{tree_at, assigned_trees, tree_value}
use Rattle.value_trees.proofs.Rows.{pushed_left}
use Rattle.value_trees.proofs.trees.push_assigned.Goals as goal

-- The tree of one more assignment was added.
pub registers-preserved : goal.registers-preserved
registers-preserved c =
    let r = c.args.round in
    let env = env_of c.args.env in
    let k = c.registers.register in
    let before = c.registers.trees.items in
    let e = c.index-expressions-register in
    let next = next_item term_of c.args.expressions.now k e.result c.registers-test.true e.is in
    let left = assigned_trees r env (k + 1) (drop (k + 1) (map term_of c.args.expressions.now)) in
    pushed_left tree_value before _ c.in_ok-tree_of.field-0 (tree_at r (Register k) env (term_of e.result)) left c.in_ok-push.ensures.items c.in_ok-tree_of.ensures
    ∙ ap (λ es. map tree_value before ++ assigned_trees r env k es) (sym next)
    ∙ c.registers.invariant
