use Rattle.std.proofs.Common.{◌≡◌, map, take}
use Rattle.node_program.specs.Node as rounds
use Rattle.round_eval.specs.Rows.{rows}
use Rattle.round_eval.proofs.row.start_of_row.Given as goal

abbrev pub invariant-loop-place : goal.invariant-loop-place
invariant-loop-place l = rows l.width l.place l.states ≡ map (rounds.start l.plan.program) (take l.place l.ids)
