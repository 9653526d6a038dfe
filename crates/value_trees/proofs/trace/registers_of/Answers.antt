use Rattle.std.proofs.Common.{ℕ, List, slice_index}
use Rattle.node_program.specs.GlobalRounds.{state}
use Rattle.value_trees.specs.Rows.{of_places}
use Rattle.value_trees.proofs.Rows.{one_more}
use Rattle.value_trees.proofs.trace.registers_of.Goals as goal

-- The row of one more register was added.
pub loop-register-preserved : goal.loop-register-preserved
loop-register-preserved c =
    let places = c.args.places.now in
    let row : ℕ → List ℕ = λ j. of_places places.places
    (λ i. slice_index (state places.program places.places places.round i) j) in
    one_more (λ r. r.items) row c.loop-register.rows.items _ c.in_ok-numbers_of.field-0 c.loop-register.register
    c.in_ok-push.ensures.items c.loop-register.invariant c.in_ok-numbers_of.ensures
