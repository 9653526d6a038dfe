use Rattle.std.proofs.Common.{◌≡◌, ◌++◌, map, drop, string_bytes}
use Rattle.value_trees.specs.Rows.{rows_of_round}
use Rattle.value_trees.specs.Trace.{told_rounds}
use Rattle.value_trees.proofs.trace_lines.write_rounds.Given as goal

-- the rounds that are left complete the text
abbrev pub invariant-rounds : goal.invariant-rounds
invariant-rounds l =
    string_bytes l.text ++ told_rounds l.base l.done (drop l.done (map rows_of_round l.rounds))
    ≡ string_bytes l.initial.text ++ told_rounds l.base 0 (map rows_of_round l.rounds)
