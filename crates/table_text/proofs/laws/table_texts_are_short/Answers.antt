use Rattle.table_text.proofs.TextLimit.{texts_short}
use Rattle.table_text.proofs.laws.table_texts_are_short.Goals as goal

pub returns : goal.returns
returns c = texts_short c.count_of_windows.ensures c.number_of_window.ensures c.windows_have_numbers.ensures
