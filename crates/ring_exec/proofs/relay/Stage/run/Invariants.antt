use Rattle.ring_exec.proofs.relay.Stage.run.Given as goal

-- the first new border has the names of its blanks
abbrev pub ghosts-after : goal.ghosts-after
ghosts-after g a = record { rightward = a.blanks.right.name; leftward = a.blanks.left.name }
