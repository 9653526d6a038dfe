use Rattle.win_index.proofs.arrangement.+write_list.Given as goal

abbrev pub decreases-write_list : goal.decreases-write_list
decreases-write_list l = l.len
