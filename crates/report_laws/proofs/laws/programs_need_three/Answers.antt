use Rattle.report_laws.proofs.JudgeAnswers.{judge_answer}
use Rattle.report_laws.proofs.Refuted.{programs_need_three}
use Rattle.report_laws.proofs.RoundsNeeded.{rounds_need_three}
use Rattle.report_laws.proofs.laws.programs_need_three.Goals as goal

pub returns-clause-rounds : goal.returns-clause-rounds
returns-clause-rounds c =
    rounds_need_three c.odd_rings_need_three.ensures.tables c.program_tables_are_apart.ensures c.table_has_the_channels_of_rounds.ensures
    c.table_has_the_channels_of_windows.ensures c.tuples_are_rings.ensures

pub returns-clause-judged : goal.returns-clause-judged
returns-clause-judged c =
    programs_need_three c.odd_rings_need_three.ensures.tables c.one_reading.ensures c.one_refusal.ensures.none c.one_witness.ensures.none
    c.program_tables_are_tables.ensures c.program_tables_are_apart.ensures
    (judge_answer c.tuples_suffice.ensures.exact c.tuples_suffice.ensures.bad_ring c.number_of_window.ensures
    c.windows_have_numbers.ensures)
