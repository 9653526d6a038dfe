use Rattle.std.proofs.Common.{◌≡◌, ◌+◌, ◌-◌, ◌*◌}
use Rattle.round_eval.specs.Rows.{rows}
use Rattle.round_eval.specs.Line.{line}
use Rattle.round_eval.proofs.window.window_state.Given as goal

abbrev pub invariant-loop-round : goal.invariant-loop-round
invariant-loop-round l = rows l.width (2 * (l.level - l.round) + 1) l.line ≡ line l.plan.program l.window l.round
