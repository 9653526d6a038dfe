use Rattle.plan_print.proofs.answer.judge_report.Goals as goal

pub returns-in-Apart-clause-answer : goal.returns-in-Apart-clause-answer
returns-in-Apart-clause-answer g c = rw c.in-Apart.is c.apart_report.ensures.answer

pub returns-in-Solve-clause-answer : goal.returns-in-Solve-clause-answer
returns-in-Solve-clause-answer g c = rw c.in-Solve.is c.problem_report.ensures.answer
