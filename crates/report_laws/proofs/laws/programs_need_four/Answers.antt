use Rattle.report_laws.proofs.RoundsNeeded.{rounds_need_four, rounds_need_five}
use Rattle.report_laws.proofs.laws.programs_need_four.Goals as goal

pub returns-clause-four : goal.returns-clause-four
returns-clause-four c =
    rounds_need_four c.nearby_places_need_four.ensures.tables c.program_tables_are_apart.ensures c.table_has_the_channels_of_rounds.ensures
    c.table_has_the_channels_of_windows.ensures c.tuples_are_rings.ensures

pub returns-clause-five : goal.returns-clause-five
returns-clause-five c =
    rounds_need_five c.nearby_places_need_four.ensures.tables_five c.program_tables_are_apart.ensures c.table_has_the_channels_of_rounds.ensures
    c.table_has_the_channels_of_windows.ensures c.tuples_are_rings.ensures
