use Rattle.std.proofs.Common.{[], ◌∷◌, length, get_or, sym, ◌∙◌, ap, arith}
use Rattle.std.proofs.lemmas.List.{get_or-map, length-map}
use Rattle.node_program.specs.Node.{start}
use Rattle.round_eval.specs.BlockStates.{block_len, block_state}
use Rattle.round_eval.specs.Line.{middle_state}
use Rattle.unroll.proofs.ColumnStates.{take_states}
use Rattle.unroll.proofs.gathering.start_states.Goals as goal

pub returns-clause-states : goal.returns-clause-states
returns-clause-states c =
    let plan = c.args.code.now in
    let b = c.args.number in
    let ids = c.put_ids.new.ids in
    let made = c.start_columns.new.out.states in
    let written = rw (c.shape.ensures.ids, c.plan.ensures) at c.put_ids.ensures in
    let size = c.put_ids.auto.ids in
    take_states (block_len plan.ids 0 b) made (block_state plan 0 b)
    (omega (
      arith,
      size,
      ap (λ s. length s.states) c.start_columns.ensures.out,
      length-map ids (start plan.program),
    ))
    (λ i lt.
    ap (λ s. get_or s.states i []) c.start_columns.ensures.out
    ∙ get_or-map (start plan.program) ids i 0 [] (omega (arith, lt, size))
    ∙ sym (ap (middle_state plan.program 0) (written i lt)
    ∙ c.states_from_parts.ensures.start plan.program (get_or ids i 0 ∷ []) (omega arith)))
