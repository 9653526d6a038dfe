use Rattle.ring_exec.proofs.message_run.run.Given as goal

-- the last border has the names of its blanks
abbrev pub ghosts-run_named : goal.ghosts-run_named
ghosts-run_named g a = record { rightward = a.blanks.right.name; leftward = a.blanks.left.name }
