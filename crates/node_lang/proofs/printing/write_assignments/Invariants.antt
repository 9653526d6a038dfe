use Rattle.std.proofs.Common.{◌≡◌, ◌++◌, map, drop, string_bytes}
use Rattle.node_program.specs.Term.{term_of}
use Rattle.node_lang.specs.Printed.{assignment_lines}
use Rattle.node_lang.proofs.printing.write_assignments.Given as goal

-- the lines that are left complete the text
abbrev pub invariant-registers : goal.invariant-registers
invariant-registers l =
    string_bytes l.text ++ assignment_lines l.register-counter (drop l.register-counter (map term_of l.expressions))
    ≡ string_bytes l.initial.text ++ assignment_lines 0 (map term_of l.expressions)
