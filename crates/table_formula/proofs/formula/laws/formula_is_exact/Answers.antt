use Rattle.table_formula.proofs.Exact.{exact}
use Rattle.table_formula.proofs.formula.laws.formula_is_exact.Goals as goal

pub returns : goal.returns
returns c = exact c.solutions_satisfy.ensures c.models_give_solutions.ensures
