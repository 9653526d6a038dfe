use Rattle.table_formula.proofs.PatternTruth.{satisfied}
use Rattle.table_formula.proofs.formula.laws.solutions_satisfy.Goals as goal

pub returns : goal.returns
returns c =
    satisfied c.tuples_suffice.ensures.exact c.tuples_are_rings.ensures c.rings_have_windows.ensures
    c.windows_have_numbers.ensures
    c.number_of_window.ensures
