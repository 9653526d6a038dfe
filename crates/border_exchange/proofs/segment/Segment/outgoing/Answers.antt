use Rattle.std.proofs.Common.{◌-◌, ◌<◌, length, ◌∙◌, ap, arith, rules}
use Rattle.node_program.specs.Node.{to_right}
use Rattle.round_eval.specs.Rows.{rows}
use Rattle.border_exchange.proofs.Stretches.{row_of_stretch}
use Rattle.border_exchange.proofs.segment.Segment.outgoing.Goals as goal

pub invariant_of-rightward : goal.invariant_of-rightward
invariant_of-rightward c =
    let was = c.self.inside in
    let p = was.plan.now.program in
    let x = was.ring.now.places in
    let kept = c.self.invariant in
    let some = kept.some in
    let count = was.end - was.first in
    let last : was.end - was.first - 1 < count = omega arith in
    let read = rw (c.width_of-width.ensures.value, c.deref.ensures.value) at c.row_at.ensures.value count last in
    record {
      sent = c.sent_to_right-right.ensures
          ∙ ap (to_right p was.round)
          (row_of_stretch p x was.round was.first count (was.end - was.first - 1) (was.end - 1)
          (rows (length p.start) count was.states.items) c.row_at.result.now kept.rows_are last (omega arith) read);
    }

pub invariant_of-leftward : goal.invariant_of-leftward
invariant_of-leftward c = search rules
