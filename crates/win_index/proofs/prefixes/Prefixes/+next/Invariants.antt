use Rattle.win_index.proofs.prefixes.Prefixes.+next.Given as goal

abbrev pub decreases-next : goal.decreases-next
decreases-next l = l.self.len
