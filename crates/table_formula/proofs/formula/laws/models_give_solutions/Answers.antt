use Rattle.table_formula.proofs.PatternTruth.{models_give}
use Rattle.table_formula.proofs.formula.laws.models_give_solutions.Goals as goal

pub returns : goal.returns
returns c =
    models_give c.tuples_suffice.ensures.exact c.tuples_are_rings.ensures c.rings_have_windows.ensures
    c.windows_have_numbers.ensures
    c.number_of_window.ensures c.window_of_number.ensures
