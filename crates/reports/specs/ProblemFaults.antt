-- The numbers of a problem, and why there is no formula of them.
use Rattle.std.specs.Prelude.{ℕ}
use Rattle.ring_problems.specs.declared.problem.Demand.{Demand}
use Rattle.ring_problems.specs.Demands.{forbidden_of, separation_of}
use Rattle.win_index.specs.ShapeRange.{IsShape}
use Rattle.win_index.specs.ShapeFaults.{IsFirstShapeFault}
use Rattle.win_index.specs.declared.shape.ShapeFault.TheVariants as shape
use Rattle.table_formula.specs.Problems.{Problem}
use Rattle.table_formula.specs.Limits.{IsWithinLimits}
use Rattle.table_formula.specs.FormulaFaults.{IsFormulaFault}
use Rattle.table_formula.specs.declared.formula.FormulaFault.TheVariants as formula
use Rattle.reports.specs.declared.problem.ProblemFault.{ProblemFault}
use Rattle.reports.specs.declared.problem.ProblemFault.TheVariants.{IdsOutOfRange, TooManyWindows}
use Rattle.reports.specs.declared.problem.ProblemFault.TheVariants.{TooManyVariables, TooManyClauses}
use Rattle.reports.specs.declared.problem.ProblemNumbers.{ProblemNumbers}

-- whether there is a table of so many identifiers, rounds and channels that is as demanded
abbrev pub problem : (ids rounds channels : ℕ) → Demand → Problem
problem ids rounds channels demand = record {
  ids = ids;
  rounds = rounds;
  channels = channels;
  separation = separation_of demand;
  forbidden = forbidden_of demand;
}

-- the problem of these numbers
abbrev pub problem_of : ProblemNumbers → Problem
problem_of n = problem n.ids n.rounds n.channels n.demand

-- there is a formula of the problem: its identifiers and rounds are a shape, and it is not too large
pub record HasFormula (p : Problem) : Type 0 where
  pub shape : IsShape p.ids p.rounds
  pub limits : IsWithinLimits p

-- the numbers of identifiers and of windows are checked first, then the size of the formula
abbrev pub IsProblemFault : Problem → ProblemFault → Type 0
IsProblemFault p IdsOutOfRange = IsFirstShapeFault p.ids p.rounds shape.IdsOutOfRange
IsProblemFault p TooManyWindows = IsFirstShapeFault p.ids p.rounds shape.TooManyWindows
IsProblemFault p TooManyVariables = IsShape p.ids p.rounds × IsFormulaFault p formula.TooManyVariables
IsProblemFault p TooManyClauses = IsShape p.ids p.rounds × IsFormulaFault p formula.TooManyClauses
