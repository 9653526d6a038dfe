use Rattle.std.proofs.Common.{ap, ◌∙◌, length}
use Rattle.node_program.specs.GlobalRounds.{channel_at}
use Rattle.round_eval.specs.Configuration.{RingConfiguration, quantity}
use Rattle.round_eval.specs.declared.configuration.Quantity.TheVariants.{Channel}
use Rattle.value_trees.specs.Rows.{of_places, register_rows, rounds_rows}
use Rattle.value_trees.proofs.trace.trace_of.Goals as goal

pub returns : goal.returns
unfolding channel_at
returns c =
    let before = c.in_ok-places.ensures in
    let after = c.in_ok-rounds.ensures.done
    ∙ ap (λ (s : RingConfiguration). record s { round = length s.program.steps }) before in
    let start = c.in_ok-start.ensures
    ∙ ap (λ (s : RingConfiguration). register_rows s.program s.places s.round) before in
    let rounds = c.in_ok-rounds.ensures.rows ∙ ap (λ (s : RingConfiguration). rounds_rows s.program s.places) before in
    let finish = c.in_ok-finish.ensures
    ∙ ap (λ (s : RingConfiguration). of_places s.places (quantity s Channel)) after in
    λ i. record { start = start i; rounds = rounds i; finish = finish i }
