-- Why a problem has no formula within the limits.
use Rattle.table_formula.specs.Problems.{Problem}
use Rattle.table_formula.specs.Limits.{HasFewVariables, HasFewClauses, IsWithinLimits}
use Rattle.table_formula.specs.declared.formula.FormulaFault.{FormulaFault}
use Rattle.table_formula.specs.declared.formula.FormulaFault.TheVariants.{TooManyVariables, TooManyClauses, OutOfMemory}

-- the number of variables is checked first, then that of clauses; memory is taken only for a formula within the limits
abbrev pub IsFormulaFault : Problem → FormulaFault → Type 0
IsFormulaFault p TooManyVariables = ¬ HasFewVariables p
IsFormulaFault p TooManyClauses = HasFewVariables p × (¬ HasFewClauses p)
IsFormulaFault p OutOfMemory = IsWithinLimits p
