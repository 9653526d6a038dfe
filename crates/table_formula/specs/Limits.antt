-- The sizes of formulas.
use Rattle.std.specs.Prelude.{◌≡◌, ℕ, ◌<◌, ◌≤◌, List, [], length}
use Rattle.table_formula.specs.Problems.{Problem}
use Rattle.table_formula.specs.Formula.{variable_count, tuples_of, conflicts_of, patterns_of, apart_formula, formula}
use Rattle.ring_problems.specs.declared.pattern.Pattern.{Pattern}
use Rattle.table_formula.specs.declared.formula.conflict.Conflict.{Conflict}
use Rattle.table_formula.specs.declared.limits.TheConstants.{MAX_VARIABLES, MAX_CLAUSES}

-- the formula has at most MAX_VARIABLES variables
abbrev pub HasFewVariables : Problem → Type 0
HasFewVariables p = variable_count p ≤ MAX_VARIABLES

-- the formula has at most MAX_CLAUSES clauses
abbrev pub HasFewClauses : Problem → Type 0
HasFewClauses p = length (formula p) ≤ MAX_CLAUSES

-- the formula is within both limits
pub record IsWithinLimits (p : Problem) : Type 0 where
  pub few_variables : HasFewVariables p
  pub few_clauses : HasFewClauses p

-- what is kept of a formula within the limits: the forbidden pairs of channels, or none if there are no tuples, the
-- patterns that the tables can match, and the numbers of clauses of the separation and of all clauses; no public
-- contract cites it
pub record IsKept (p : Problem) (conflicts : List Conflict) (possible : List Pattern) (apart clauses : ℕ) : Type 0 where
  pub limits : IsWithinLimits p
  pub pairs : 0 < length (tuples_of p) → conflicts ≡ conflicts_of p
  pub none : length (tuples_of p) ≡ 0 → conflicts ≡ []
  pub possible_is : possible ≡ patterns_of p
  pub apart_is : apart ≡ length (apart_formula p)
  pub clauses_is : clauses ≡ length (formula p)
