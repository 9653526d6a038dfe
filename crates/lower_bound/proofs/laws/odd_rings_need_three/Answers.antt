use Rattle.lower_bound.proofs.OddRings.{need_three}
use Rattle.lower_bound.proofs.Tables.{tables_need_three}
use Rattle.lower_bound.proofs.laws.odd_rings_need_three.Goals as goal

pub returns-clause-windows : goal.returns-clause-windows
returns-clause-windows c = need_three c.rings_have_windows.ensures

pub returns-clause-tables : goal.returns-clause-tables
returns-clause-tables c =
    tables_need_three (need_three c.rings_have_windows.ensures) c.window_of_number.ensures c.windows_have_numbers.ensures c.less_is_apart.ensures
