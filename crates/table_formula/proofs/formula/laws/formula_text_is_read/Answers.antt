use Rattle.table_formula.proofs.Reading.{read, one_reading}
use Rattle.table_formula.proofs.formula.laws.formula_text_is_read.Goals as goal

pub returns-clause-read : goal.returns-clause-read
returns-clause-read c = read c.prefixes_have_numbers.ensures c.window_of_number.ensures

pub returns-clause-one : goal.returns-clause-one
returns-clause-one c = one_reading
