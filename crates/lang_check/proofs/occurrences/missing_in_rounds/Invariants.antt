use Rattle.std.proofs.Common.{◌≡◌, map, take}
use Rattle.std.specs.Prelude.{nat_le, find, flat_map}
use Rattle.node_program.specs.Term.{step_of, step_terms}
use Rattle.lang_check.specs.Occurrences.{registers_read}
use Rattle.lang_check.proofs.occurrences.missing_in_rounds.Given as goal

abbrev pub invariant-loop-round : goal.invariant-loop-round
invariant-loop-round l =
    l.found
    ≡ find (λ j. nat_le l.count j) (flat_map registers_read (step_terms (map step_of (take l.round-index l.rounds))))
