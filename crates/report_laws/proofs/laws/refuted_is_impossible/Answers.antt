use Rattle.report_laws.specs.Laws.{NoTableIfRefuted, NoTableSolvesIfRefuted}
use Rattle.report_laws.proofs.JudgeAnswers.{judge_answer}
use Rattle.report_laws.proofs.Refuted.{no_table, no_table_solves, no_program, no_program_solves}
use Rattle.report_laws.proofs.laws.refuted_is_impossible.Goals.{After-places_of_arcs}
use Rattle.report_laws.proofs.laws.refuted_is_impossible.Goals as goal

refuted_has_none : After-places_of_arcs → NoTableIfRefuted
refuted_has_none c =
    no_table c.refutations_are_sound.ensures c.less_is_apart.ensures c.number_of_window.ensures
    c.window_of_number.ensures
    c.windows_have_numbers.ensures c.rings_have_windows.ensures c.count_of_windows.ensures
    c.places_of_arcs.ensures.length
    c.places_of_arcs.ensures.item

refuted_solves_none : After-places_of_arcs → NoTableSolvesIfRefuted
refuted_solves_none c =
    no_table_solves c.refutations_are_sound.ensures c.number_of_window.ensures c.window_of_number.ensures
    c.windows_have_numbers.ensures c.rings_have_windows.ensures c.count_of_windows.ensures
    c.places_of_arcs.ensures.length
    c.places_of_arcs.ensures.item

pub returns-clause-table_solves : goal.returns-clause-table_solves
returns-clause-table_solves c = refuted_solves_none c

pub returns-clause-program_solves : goal.returns-clause-program_solves
returns-clause-program_solves c =
    no_program_solves (refuted_solves_none c) c.one_reading.ensures c.one_refusal.ensures.none c.one_witness-2.ensures.none
    c.program_tables_are_tables.ensures c.program_tables_solve.ensures

pub returns-clause-table : goal.returns-clause-table
returns-clause-table c = refuted_has_none c

pub returns-clause-program : goal.returns-clause-program
returns-clause-program c =
    no_program (refuted_has_none c) c.one_reading.ensures c.one_refusal.ensures.none c.one_witness.ensures.none
    c.program_tables_are_tables.ensures c.program_tables_are_apart.ensures
    (judge_answer c.tuples_suffice.ensures.exact c.tuples_suffice.ensures.bad_ring c.number_of_window.ensures
    c.windows_have_numbers.ensures)
