use Rattle.std.proofs.Common.{◌*◌, length, refl, ◌∙◌}
use Rattle.std.proofs.lemmas.List.{with_items_is}
use Rattle.round_eval.specs.BlockStates.{block_len}
use Rattle.unroll.proofs.maker.BlockMaker.make.Goals as goal

-- the lists of the block hold its states and its messages
pub new-requires : goal.new-requires
new-requires g c =
    let plan = c.self.inside.code.now in
    let cells = c.take_rows.new.cells in
    let lists = c.in-Ok.lists in
    let whole = with_items_is lists.states cells (c.take_rows.auto.cells ∙ c.deref_mut.ensures.len) in
    let left = with_items_is lists.to_left c.send_states.new.to_left (c.send_states.auto.to_left
    ∙ c.deref_mut-2.ensures.len) in
    let right = with_items_is lists.to_right c.send_states.new.to_right (c.send_states.auto.to_right
    ∙ c.deref_mut-3.ensures.len) in
    let key = rw (← c.self.view_is) at c.requires.key in
    let len = rw (c.shape-shape.ensures.ids, c.plan-plan.ensures) at c.block_len-len.ensures.value in
    let width = rw c.plan-plan.ensures at c.width_of.ensures.value in
    let registers = c.in_ok-write_states.ensures.ready.made_wide.1 in
    rw (c.plan-plan.ensures, whole, left, right)
    (record {
      level = key.0;
      number = key.1;
      size = refl;
      cells_size = c.take_rows.auto.cells ∙ c.deref_mut.ensures.len ∙ c.in-Ok.ensures.0 ∙ (λ j. len j * width j);
      states = c.rows_are_taken.ensures (length plan.program.start)
          (block_len plan.ids c.args.level c.args.number) cells
          ∙ rw (registers, len) at c.take_rows.ensures ∙ c.in_ok-write_states.ensures.written.0.found.0;
      sent = c.send_states.ensures.sent c.args.number c.in_ok-write_states.ensures.written.0.found.0;
    })
