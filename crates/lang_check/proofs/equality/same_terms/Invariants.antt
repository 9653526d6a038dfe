use Rattle.std.proofs.Common.{◌≡◌, map, take}
use Rattle.node_program.specs.Term.{term_of}
use Rattle.lang_check.proofs.equality.same_terms.Given as goal

abbrev pub invariant-loop-i : goal.invariant-loop-i
invariant-loop-i l = map term_of (take l.i l.a) ≡ map term_of (take l.i l.b)
