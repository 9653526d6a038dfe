use Rattle.std.proofs.Common.{◌≡◌, map, take}
use Rattle.node_program.specs.Term.{step_of}
use Rattle.lang_check.proofs.equality.same_rounds.Given as goal

abbrev pub invariant-loop-i : goal.invariant-loop-i
invariant-loop-i l = map step_of (take l.i l.a) ≡ map step_of (take l.i l.b)
