use Rattle.std.proofs.Common.{◌≡◌, zero, suc, ◌+◌, ◌-◌, ◌*◌, ◌/◌, length, ◌∙◌, ap, arith}
use Rattle.round_eval.specs.Line.{item, middle_state}
use Rattle.round_eval.proofs.window.window_state.Goals as goal

pub returns : goal.returns
unfolding middle_state
returns c =
    let level : c.loop-round.round ≡ length c.args.window.now / 2 = omega arith in
    let one : 2 * (length c.args.window.now / 2 - c.loop-round.round) + 1 ≡ suc zero = omega arith in
    let left = rw (one, level) at c.loop-round.invariant in
    c.copy_from_slice.ensures.after ∙ ap (λ u. item u 0) left
