use Rattle.lower_bound.proofs.Tables.{tables_need}
use Rattle.lower_bound.proofs.laws.tables_need_channels.Goals as goal

pub returns : goal.returns
returns c =
    tables_need c.windows_need_channels.ensures c.window_of_number.ensures c.windows_have_numbers.ensures c.less_is_apart.ensures
