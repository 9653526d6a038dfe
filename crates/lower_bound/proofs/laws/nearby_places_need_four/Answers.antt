use Rattle.lower_bound.proofs.Nearby.{need_four, need_five}
use Rattle.lower_bound.proofs.Tables.{tables_need_four, tables_need_five}
use Rattle.lower_bound.proofs.laws.nearby_places_need_four.Goals as goal

pub returns-clause-four : goal.returns-clause-four
returns-clause-four c = need_four c.rings_have_windows.ensures

pub returns-clause-five : goal.returns-clause-five
returns-clause-five c = need_five c.rings_have_windows.ensures

pub returns-clause-tables : goal.returns-clause-tables
returns-clause-tables c =
    tables_need_four (need_four c.rings_have_windows.ensures) c.window_of_number.ensures c.windows_have_numbers.ensures c.less_is_apart.ensures

pub returns-clause-tables_five : goal.returns-clause-tables_five
returns-clause-tables_five c =
    tables_need_five (need_five c.rings_have_windows.ensures) c.window_of_number.ensures c.windows_have_numbers.ensures c.less_is_apart.ensures
