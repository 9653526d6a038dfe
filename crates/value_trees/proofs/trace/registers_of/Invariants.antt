use Rattle.std.proofs.Common.{◌≡◌, map, slice_index}
use Rattle.std.specs.List.{range_with_len}
use Rattle.node_program.specs.GlobalRounds.{state}
use Rattle.value_trees.specs.Rows.{of_places, items_of}
use Rattle.value_trees.proofs.trace.registers_of.Given as goal

-- the rows of the registers so far
abbrev pub invariant-loop-register : goal.invariant-loop-register
invariant-loop-register l =
    items_of l.rows.items
    ≡ map (λ j. of_places l.places.places (λ i. slice_index (state l.places.program l.places.places l.places.round i) j))
    (range_with_len 0 l.register)
