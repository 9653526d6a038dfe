use Rattle.ring_problems.proofs.Suffices.{one_witness, no_witness, witness_on_ring}
use Rattle.ring_problems.proofs.laws.one_witness.Goals as goal

pub returns-clause-one : goal.returns-clause-one
returns-clause-one c = one_witness

pub returns-clause-none : goal.returns-clause-none
returns-clause-none c = no_witness

pub returns-clause-rings : goal.returns-clause-rings
returns-clause-rings c = witness_on_ring
