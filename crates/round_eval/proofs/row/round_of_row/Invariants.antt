use Rattle.std.proofs.Common.{◌≡◌, ◌++◌, drop}
use Rattle.round_eval.specs.Rows.{row_after, rows}
use Rattle.round_eval.proofs.row.round_of_row.Given as goal

abbrev pub invariant-loop-node : goal.invariant-loop-node
invariant-loop-node l =
    rows l.width l.node l.out
    ++ row_after l.plan.program l.round l.left (drop l.node (rows l.width l.nodes l.states)) l.from_right
    ≡ row_after l.plan.program l.round l.from_left (rows l.width l.nodes l.states) l.from_right
