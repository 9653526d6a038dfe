use Rattle.std.proofs.Common.{append_assoc}
use Rattle.node_lang.proofs.Texts.{next_item}
use Rattle.value_trees.specs.ValueTrees.{part_value}
use Rattle.value_trees.proofs.tree.write_lines.Goals as goal

-- One more line was written.
pub parts-preserved : goal.parts-preserved
parts-preserved c =
    let e = c.part-item in
    let next = next_item part_value c.args.parts.now c.parts.part-index e.result c.parts-test.true e.is in
    let left = rw next at c.parts.invariant in
    rw (c.in_ok-write_ending.ensures, c.in_ok-write_number.ensures, c.in_ok-write_beginning.ensures)
    (simp append_assoc (simp append_assoc at left))
