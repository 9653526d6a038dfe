use Rattle.std.proofs.Common.{◌≡◌, map}
use Rattle.std.specs.Prelude.{slice_index}
use Rattle.std.specs.List.{range_with_len}
use Rattle.node_program.specs.Bounds.{register_bounds}
use Rattle.fault_notes.proofs.bound_lines.bounds_in_time.Given as goal

abbrev pub invariant-loop-rounds : goal.invariant-loop-rounds
invariant-loop-rounds l =
    l.bounds.items ≡ map (λ r. slice_index (register_bounds l.program l.ids r) l.register) (range_with_len 0 l.rounds)
