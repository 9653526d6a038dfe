use Rattle.node_lang.proofs.Judging.{first_fault_of}
use Rattle.node_lang.proofs.laws.first_fault.Goals as goal

pub returns-clause-first : goal.returns-clause-first
returns-clause-first c = first_fault_of
