use Rattle.std.proofs.Common.{append_assoc}
use Rattle.node_lang.proofs.Texts.{next_item}
use Rattle.value_trees.proofs.trace_lines.write_registers.Goals as goal

-- One more line was written.
pub registers-preserved : goal.registers-preserved
registers-preserved c =
    let e = c.index-rows-register in
    let next = next_item (λ row. row.items) c.args.rows.now c.registers.register-counter e.result c.registers-test.true e.is in
    let left = rw next at c.registers.invariant in
    rw (c.in_ok-write_row.ensures, c.deref.ensures.value, c.in_ok-write.ensures.bytes, c.in_ok-write_phase.ensures)
    (simp append_assoc (simp append_assoc at left))
