use Rattle.channel_tables.proofs.Witnesses.{no_witness, witness_on_ring}
use Rattle.channel_tables.proofs.laws.one_witness.Goals as goal

pub returns-clause-none : goal.returns-clause-none
returns-clause-none c = no_witness

pub returns-clause-places : goal.returns-clause-places
returns-clause-places c = witness_on_ring
