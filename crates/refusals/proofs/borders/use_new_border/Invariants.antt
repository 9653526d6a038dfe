use Rattle.refusals.proofs.borders.use_new_border.Given as goal

-- each side's ledger has the name and the parts of its blank
abbrev pub ghosts-use_border-L-Ledger : goal.ghosts-use_border-L-Ledger
ghosts-use_border-L-Ledger g a = record { name = a.right.name; parts = a.right.parts }

abbrev pub ghosts-use_border-M-Ledger : goal.ghosts-use_border-M-Ledger
ghosts-use_border-M-Ledger g a = record { name = a.left.name; parts = a.left.parts }
