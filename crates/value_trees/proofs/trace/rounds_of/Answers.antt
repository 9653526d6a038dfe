use Rattle.std.proofs.Common.{◌+◌, ap, ◌∙◌}
use Rattle.round_eval.specs.Configuration.{RingConfiguration}
use Rattle.value_trees.specs.Rows.{round_rows, rows_of_round}
use Rattle.value_trees.proofs.Rows.{one_more}
use Rattle.value_trees.proofs.trace.rounds_of.Goals as goal

-- One more round was done, and its rows were added.
pub loop-round-preserved : goal.loop-round-preserved
loop-round-preserved c =
    let p = c.args.places.now.program in
    let x = c.args.places.now.places in
    let was = c.loop-round.invariant.done in
    let rows = c.in_ok-next_round.ensures.rows
    ∙ ap (λ (s : RingConfiguration). round_rows s.program s.places s.round) was in
    record {
      done = c.in_ok-next_round.ensures.done ∙ ap (λ (s : RingConfiguration). record s { round = s.round + 1 }) was;
      rows = one_more rows_of_round (round_rows p x) c.loop-round.rounds.items _ c.in_ok-next_round.field-0 c.loop-round._round
          c.in_ok-push.ensures.items c.loop-round.invariant.rows rows;
    }
