use Rattle.std.proofs.Common.{◌≡◌, ◌++◌}
use Rattle.std.specs.List.{flat_map, range_with_len}
use Rattle.table_formula.specs.Formula.{close_to}
use Rattle.table_formula.proofs.formula.conflict.push_close_pairs.Given as goal

abbrev pub invariant-loop-first : goal.invariant-loop-first
invariant-loop-first l =
    l.out.items ≡ l.fn.out.items ++ flat_map (close_to l.channels l.step l.distance) (range_with_len 0 l.first)
