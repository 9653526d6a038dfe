use Rattle.table_text.proofs.odometer.+next_front.Given as goal

abbrev pub decreases-next_front : goal.decreases-next_front
decreases-next_front l = l.len
