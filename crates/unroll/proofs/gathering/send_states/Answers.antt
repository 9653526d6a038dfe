use Rattle.std.proofs.Common.{ℕ, ◌<◌, length, ◌∙◌, ap, arith}
use Rattle.node_program.specs.Node.{to_left, to_right}
use Rattle.round_eval.specs.BlockStates.{block_len, block_state}
use Rattle.unroll.proofs.ColumnStates.{item_taken}
use Rattle.unroll.proofs.gathering.send_states.Goals as goal

pub returns-then-level-rounds-clause-sent : goal.returns-then-level-rounds-clause-sent
returns-then-level-rounds-clause-sent c = λ b are.
    let plan = c.args.code.now in
    let r = c.args.level in
    let wide = c.requires.ready.made_wide.0 in
    let made = c.args.scratch.now.made.states in
    let below : r < length c.plan.result.now.program.steps =
    omega (arith, c.if-level-rounds.true, c.rounds.ensures, c.shape.ensures.rounds) in
    let low = rw c.plan.ensures at below in
    let sizes = c.requires.sizes low in
    let state = λ (i : ℕ) (lt : i < block_len plan.ids r b). item_taken _ made (block_state plan r b) i are lt in
    record {
      left_size = λ _. omega (arith, sizes.0, c.to_left_columns.auto.out);
      right_size = λ _. omega (arith, sizes.1, c.to_right_columns.auto.out);
      left = λ _ i lt. c.to_left_columns.ensures.sent i (omega (arith, lt, wide))
          ∙ ap (to_left plan.program r) (state i lt);
      right = λ _ i lt. c.to_right_columns.ensures.sent i (omega (arith, lt, wide))
          ∙ ap (to_right plan.program r) (state i lt);
    }
