use Rattle.std.proofs.Common.{◌+◌, ◌*◌, Some, subst, ap, ◌∙◌, arith}
use Rattle.nbhd_check.specs.Buckets.{BeginsFarTuple}
use Rattle.nbhd_check.proofs.FarFree.{by_pair}
use Rattle.win_index.proofs.Windows.{one_number}
use Rattle.nbhd_check.proofs.far_counts.Family.free_with_both.Goals.{else-numbers-least-via-then-numbers-least+else-may_begin_far_tuple}
use Rattle.nbhd_check.proofs.far_counts.Family.free_with_both.Goals.{else-numbers-least-via-else-numbers-least}
use Rattle.nbhd_check.proofs.far_counts.Family.free_with_both.Goals as goal

pub returns-then-may_begin_far_tuple-clause-free : goal.returns-then-may_begin_far_tuple-clause-free
returns-then-may_begin_far_tuple-clause-free c = λ number window below item own far.
    let t = c.args.self.table.now in
    let list = by_pair t number c.args.first c.args.second window c.args.self.shared.now c.args.self.some.0 item own in
    let same = one_number (2 * t.rounds + 1) t.ids number c.args.numbers.before _ (item
    ∙ ap Some list) c.requires.numbers.before in
    absurd (omega (arith, below, same))

pub returns-else-numbers-least-clause-free : goal.returns-else-numbers-least-clause-free
returns-else-numbers-least-clause-free c = λ number window below item own far.
    let t = c.args.self.table.now in
    let list = by_pair t number c.args.first c.args.second window c.args.self.shared.now c.args.self.some.0 item own in
    let same = one_number (2 * t.rounds + 1) t.ids number c.args.numbers.before _ (item
    ∙ ap Some list) c.requires.numbers.before in
    elim c.else-numbers-least.branch [
      | else-numbers-least-via-then-numbers-least+else-may_begin_far_tuple w ↦
          w.if-may_begin_far_tuple.ensures (subst (BeginsFarTuple t c.args.self.distance) list far)
      | else-numbers-least-via-else-numbers-least w ↦ absurd (omega (arith, below, same, w.if-numbers-least.false))
    ]
