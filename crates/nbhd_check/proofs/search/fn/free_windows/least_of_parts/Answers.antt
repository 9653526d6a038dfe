use Rattle.nbhd_check.proofs.search.fn.free_windows.least_of_parts.Goals as goal

pub returns : goal.returns
returns c = rw c.min.ensures at c.free_in_pieces.ensures
