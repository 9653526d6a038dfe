use Rattle.std.proofs.Common.{◌≡◌, ◌++◌}
use Rattle.table_formula.specs.Formula.{close_to}
use Rattle.table_formula.proofs.formula.conflict.push_close_to.Given as goal

abbrev pub invariant-loop-second : goal.invariant-loop-second
invariant-loop-second l = l.out.items ≡ l.fn.out.items ++ close_to l.second l.step l.distance l.first
