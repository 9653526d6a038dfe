use Rattle.conformance.proofs.borders.two_takers_wait_for_each_put.Given as goal

-- each side's ledger has the name and the parts of its blank
abbrev pub ghosts-met-R-Ledger : goal.ghosts-met-R-Ledger
ghosts-met-R-Ledger g a = record { name = a.right.name; parts = a.right.parts }

abbrev pub ghosts-met-L-Ledger : goal.ghosts-met-L-Ledger
ghosts-met-L-Ledger g a = record { name = a.left.name; parts = a.left.parts }
