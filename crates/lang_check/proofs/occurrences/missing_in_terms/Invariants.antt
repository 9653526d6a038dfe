use Rattle.std.proofs.Common.{◌≡◌, map, take}
use Rattle.std.specs.Prelude.{nat_le, find, flat_map}
use Rattle.node_program.specs.Term.{term_of}
use Rattle.lang_check.specs.Occurrences.{registers_read}
use Rattle.lang_check.proofs.occurrences.missing_in_terms.Given as goal

abbrev pub invariant-loop-expression : goal.invariant-loop-expression
invariant-loop-expression l =
    l.found ≡ find (λ j. nat_le l.count j)
    (flat_map registers_read (map term_of (take l.expression-index l.expressions)))
