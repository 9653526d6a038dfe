use Rattle.report_laws.proofs.EachReport.{each_task_has_a_report}
use Rattle.report_laws.proofs.JudgeAnswers.{judge_answer}
use Rattle.report_laws.proofs.ProblemAnswers.{problem_answer}
use Rattle.report_laws.proofs.laws.each_task_has_a_report.Goals as goal

pub returns : goal.returns
returns c =
    each_task_has_a_report c.reading_is_exact.ensures.sound c.first_fault.ensures.first c.one_text_fault.ensures.none
    (judge_answer c.tuples_suffice.ensures.exact c.tuples_suffice.ensures.bad_ring c.number_of_window.ensures
    c.windows_have_numbers.ensures)
    (problem_answer c.tuples_suffice-2.ensures.exact c.tuples_suffice-2.ensures.bad_ring c.windows_have_numbers.ensures c.rings_have_windows.ensures)
    c.tables_have_channels.ensures c.each_text_has_a_verdict.ensures
