use Rattle.std.proofs.Common.{refl}
use Rattle.ring_problems.proofs.Problems.{none_is_solved}
use Rattle.nbhd_check.proofs.problem_verdict.judge_problem_with_workers.Goals as goal

pub returns-in-None-clause-verdict : goal.returns-in-None-clause-verdict
returns-in-None-clause-verdict g c = none_is_solved c.args.table.now c.args.problem.now _ refl c.in-None.ensures

pub returns-in-None-clause-yes : goal.returns-in-None-clause-yes
returns-in-None-clause-yes g c = (λ yes. returns-in-None-clause-verdict g c, λ good. refl)
