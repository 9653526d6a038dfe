use Rattle.table_text.proofs.FaultsOnce.{texts_read}
use Rattle.table_text.proofs.laws.table_texts_are_read.Goals as goal

pub returns : goal.returns
returns c = texts_read c.number_of_window.ensures c.windows_have_numbers.ensures c.table_texts_are_short.ensures
