use Rattle.win_index.proofs.arrangement.+write_next.Given as goal

abbrev pub decreases-write_next : goal.decreases-write_next
decreases-write_next l = l.len
