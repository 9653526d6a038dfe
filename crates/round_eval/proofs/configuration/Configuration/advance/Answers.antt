use Rattle.std.proofs.Common.{◌≡◌, ◌<◌, ◌-◌, length, vec_len, subst, sym, ◌∙◌, ap, arith, rules}
use Rattle.std.proofs.lemmas.List.{with_items_is}
use Rattle.node_program.specs.Node.{to_left, to_right}
use Rattle.round_eval.specs.Configuration.{RingConfiguration}
use Rattle.round_eval.proofs.Configurations.{row_of_place, advance_keeps}
use Rattle.round_eval.proofs.configuration.Configuration.advance.Goals as goal

pub invariant_of-self : goal.invariant_of-self
invariant_of-self c =
    let was = c.self.inside in
    let p = was.plan.now.program in
    let x = was.ring.now.places in
    let long = c.len-nodes.ensures.valid.long in
    let some : 0 < length x = omega arith in
    let nodes : c.len-nodes.result ≡ length x = c.len-nodes.ensures.value in
    let last : length x - 1 < length x = omega arith in
    let kept = c.self.invariant in
    let last_row = row_of_place _ was.states.items _ _ _ kept last
    (rw (c.width_of-width.ensures.value, c.deref.ensures.value, nodes) at c.row_at.ensures.value (length x) (omega arith)) in
    let first_row = row_of_place _ was.states.items _ _ _ kept some
    (rw (c.width_of-width.ensures.value, c.deref-2.ensures.value) at c.row_at-2.ensures.value (length x) some) in
    let from_last = c.sent_to_right-from_last.ensures ∙ ap (to_right p was.round) last_row in
    let from_first = c.sent_to_left-from_first.ensures ∙ ap (to_left p was.round) first_row in
    let made = rw (c.deref-3.ensures.value, nodes) at c.round_of_row.ensures in
    let size = c.round_of_row.auto.out ∙ c.deref_mut.ensures.len in
    let written = with_items_is was.spare c.round_of_row.new.out size in
    let more = subst (λ (s : RingConfiguration). s.round < length s.program.steps) (sym c.self.view_is) c.requires in
    rw (c.swap.ensures.x_after, c.swap.ensures.y_after, written)
    (advance_keeps c.stretches_are_rows.ensures _ was.states.items c.round_of_row.new.out (vec_len was.spare) (vec_len was.states) _ _
    kept more some (search rules) (size ∙ (search rules)) from_last from_first made)
