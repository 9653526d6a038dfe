use Rattle.table_formula.proofs.Numbers.{value_is_number}
use Rattle.table_formula.proofs.refutation.numbers_and_literals.number_in.Goals as goal

pub returns : goal.returns
returns c = value_is_number c.args.word.now c.decimal_value.result c.decimal_value.ensures
