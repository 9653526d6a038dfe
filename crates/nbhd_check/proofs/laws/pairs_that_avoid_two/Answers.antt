use Rattle.nbhd_check.specs.Pairs.{holds}
use Rattle.nbhd_check.proofs.Included.{included}
use Rattle.nbhd_check.proofs.laws.pairs_that_avoid_two.Goals as goal

pub returns : goal.returns
returns c = λ pairs class a b. included class (holds a) (holds b) pairs
