use Rattle.report_laws.proofs.RoundsNeeded.{matchings_need, sets_need}
use Rattle.report_laws.proofs.laws.problems_need_rounds.Goals as goal

pub returns-clause-sets : goal.returns-clause-sets
returns-clause-sets c =
    sets_need c.independent_sets_need_rounds.ensures c.program_tables_solve.ensures c.table_has_the_channels_of_rounds.ensures
    c.table_has_the_channels_of_windows.ensures c.tuples_are_rings.ensures

pub returns-clause-matchings : goal.returns-clause-matchings
returns-clause-matchings c =
    matchings_need c.matchings_need_rounds.ensures c.program_tables_solve.ensures c.table_has_the_channels_of_rounds.ensures
    c.table_has_the_channels_of_windows.ensures c.tuples_are_rings.ensures
