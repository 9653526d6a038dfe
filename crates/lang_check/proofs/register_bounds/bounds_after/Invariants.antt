use Rattle.std.proofs.Common.{◌≡◌}
use Rattle.node_program.specs.Bounds.{register_bounds}
use Rattle.lang_check.proofs.register_bounds.bounds_after.Given as goal

abbrev pub invariant-loop-round : goal.invariant-loop-round
invariant-loop-round l = l.registers ≡ register_bounds l.program l.ids l.round
