use Rattle.ring_problems.proofs.Separations.{separation_is_problem, near_is_problem}
use Rattle.ring_problems.proofs.laws.separations_are_problems.Goals as goal

pub returns-clause-from : goal.returns-clause-from
returns-clause-from c = separation_is_problem

pub returns-clause-near : goal.returns-clause-near
returns-clause-near c = near_is_problem
