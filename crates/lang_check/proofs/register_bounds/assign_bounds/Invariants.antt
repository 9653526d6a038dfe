use Rattle.std.proofs.Common.{◌≡◌, map, take}
use Rattle.node_program.specs.Term.{term_of}
use Rattle.node_program.specs.Bounds.{bound}
use Rattle.node_program.specs.Value.{env_of}
use Rattle.lang_check.proofs.register_bounds.assign_bounds.Given as goal

abbrev pub invariant-loop-i : goal.invariant-loop-i
invariant-loop-i l = take l.i l.out ≡ map (λ e. bound e (env_of l.limits)) (map term_of (take l.i l.expressions))
