use Rattle.std.proofs.Common.{◌≡◌, ◌++◌, replicate, string_bytes}
use Rattle.value_trees.proofs.tree.write_blanks.Given as goal

-- the blanks so far are in the text
abbrev pub invariant-blanks : goal.invariant-blanks
invariant-blanks l = string_bytes l.text ≡ string_bytes l.initial.text ++ replicate l._blank 32
