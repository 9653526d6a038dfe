use Rattle.win_index.proofs.Tuples.{ring_tuple}
use Rattle.win_index.proofs.laws.rings_have_tuples.Goals as goal

pub returns : goal.returns
returns c = ring_tuple
