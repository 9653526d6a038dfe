use Rattle.channel_tables.proofs.Witnesses.{suffice}
use Rattle.channel_tables.proofs.laws.tuples_suffice.Goals as goal

pub returns-clause-exact : goal.returns-clause-exact
returns-clause-exact c = suffice
