use Rattle.std.proofs.Common.{◌≡◌, ◌++◌, map, drop, string_bytes}
use Rattle.std.specs.List.{flat_map}
use Rattle.node_program.specs.Term.{step_of}
use Rattle.node_lang.specs.Printed.{round_lines}
use Rattle.node_lang.proofs.printing.write_rounds.Given as goal

-- the rounds that are left complete the text
abbrev pub invariant-rounds : goal.invariant-rounds
invariant-rounds l =
    string_bytes l.text ++ flat_map round_lines (drop l.round-index (map step_of l.rounds))
    ≡ string_bytes l.initial.text ++ flat_map round_lines (map step_of l.rounds)
