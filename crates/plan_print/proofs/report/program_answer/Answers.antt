use Rattle.plan_print.proofs.report.program_answer.Goals as goal

pub returns-in-Judge-clause-answer : goal.returns-in-Judge-clause-answer
returns-in-Judge-clause-answer g c = rw c.in-Judge.is c.judge_report.ensures.answer

pub returns-in-Run-clause-answer : goal.returns-in-Run-clause-answer
returns-in-Run-clause-answer g c = rw c.in-Run.is c.run_answer.ensures.answer

pub returns-in-Plan-clause-answer : goal.returns-in-Plan-clause-answer
returns-in-Plan-clause-answer g c = rw c.in-Plan.is c.plan_answer.ensures.answer

pub returns-in-Trace-clause-answer : goal.returns-in-Trace-clause-answer
returns-in-Trace-clause-answer g c = rw c.in-Trace.is c.trace_answer.ensures

pub returns-in-Explain-clause-answer : goal.returns-in-Explain-clause-answer
returns-in-Explain-clause-answer g c = rw c.in-Explain.is c.explain_answer.ensures
