use Rattle.std.proofs.Common.{◌≡◌, ℕ, ◌*◌, ◌≤◌, length}
use Rattle.std.specs.List.{flat_map, range_with_len}
use Rattle.table_formula.specs.Formula.{close_to}
use Rattle.table_formula.proofs.formula.conflict.close_pair_count.Given as goal

abbrev pub invariant-loop-first : goal.invariant-loop-first
invariant-loop-first l = record {
  counted : (step : ℕ) → l.count ≡ length (flat_map (close_to l.channels step l.distance) (range_with_len 0 l.first));
  few : l.count ≤ l.first * l.channels;
}
