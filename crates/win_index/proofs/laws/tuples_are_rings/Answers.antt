use Rattle.win_index.proofs.Tuples.{tuple_ring}
use Rattle.win_index.proofs.laws.tuples_are_rings.Goals as goal

pub returns : goal.returns
returns c = tuple_ring
