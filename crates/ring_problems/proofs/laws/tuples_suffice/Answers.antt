use Rattle.ring_problems.proofs.Suffices.{suffice}
use Rattle.ring_problems.proofs.laws.tuples_suffice.Goals as goal

pub returns-clause-exact : goal.returns-clause-exact
returns-clause-exact c = suffice
