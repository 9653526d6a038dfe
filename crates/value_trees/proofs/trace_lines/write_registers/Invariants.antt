use Rattle.std.proofs.Common.{◌≡◌, ◌++◌, drop, string_bytes}
use Rattle.value_trees.specs.Rows.{items_of}
use Rattle.value_trees.specs.Trace.{told_registers}
use Rattle.value_trees.proofs.trace_lines.write_registers.Given as goal

-- the rows that are left complete the text
abbrev pub invariant-registers : goal.invariant-registers
invariant-registers l =
    string_bytes l.text ++ told_registers l.base l.rounds l.register-counter (drop l.register-counter (items_of l.rows))
    ≡ string_bytes l.initial.text ++ told_registers l.base l.rounds 0 (items_of l.rows)
