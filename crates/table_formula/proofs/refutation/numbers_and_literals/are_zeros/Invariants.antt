use Rattle.std.proofs.Common.{◌≡◌, ◌==◌, drop}
use Rattle.std.specs.List.{list_all}
use Rattle.table_formula.proofs.refutation.numbers_and_literals.are_zeros.Given as goal

abbrev pub invariant-loop-byte : goal.invariant-loop-byte
invariant-loop-byte l = list_all (λ byte. byte == 48) (drop l.byte-index l.word) ≡ list_all (λ byte. byte == 48) l.word
