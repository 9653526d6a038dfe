use Rattle.table_text.proofs.FaultsOnce.{one_fault}
use Rattle.table_text.proofs.laws.one_table_fault.Goals as goal

pub returns-clause-one : goal.returns-clause-one
returns-clause-one c = one_fault c.number_of_window.ensures c.windows_have_numbers.ensures
