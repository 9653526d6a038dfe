-- The formula is exact.
use Rattle.table_formula.specs.Formula.{values_of}
use Rattle.table_formula.specs.Laws.{SolutionsSatisfy, ModelsGiveSolutions, FormulaIsExact}

pub exact : SolutionsSatisfy → ModelsGiveSolutions → FormulaIsExact
exact satisfied models p has = (
  λ none values all. let found = models p values has all in
      none found.0 found.1,
  λ none t solution. none (values_of p t) (satisfied p t solution),
)
