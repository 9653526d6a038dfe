-- The statements of the laws of this crate.
use Rattle.std.specs.Prelude.{◌≡◌, ◌↔◌, ℕ, ◌<◌, ◌≤◌, Bool, true, List, All}
use Rattle.node_program.specs.declared.limits.TheConstants.{MAX_CHANNELS}
use Rattle.win_index.specs.declared.limits.TheConstants.{MAX_ROUNDS}
use Rattle.win_index.specs.ShapeRange.{IsShape}
use Rattle.channel_tables.specs.Tables.{ChannelTable}
use Rattle.table_formula.specs.Clauses.{is_true_literal, Holds}
use Rattle.table_formula.specs.declared.literal.Literal.{Literal}
use Rattle.table_formula.specs.Problems.{Problem, IsSolution, IsImpossible}
use Rattle.table_formula.specs.Formula.{formula, values_of, variable_count}
use Rattle.table_formula.specs.Limits.{IsWithinLimits}
use Rattle.table_formula.specs.Texts.{formula_text}
use Rattle.table_formula.specs.Dimacs.{ReadsAs}
use Rattle.table_formula.specs.Exchanges.{can_exchange, exchanged_literal}
use Rattle.table_formula.specs.declared.formula.exchange.Exchange.{Exchange}

-- each table that is asked for makes all clauses hold
abbrev pub SolutionsSatisfy : Type 0
SolutionsSatisfy = (p : Problem) (t : ChannelTable) → IsSolution p t → All (Holds (values_of p t)) (formula p)

-- a problem whose tables have some channels, and no more than tables can have
pub record HasTables (p : Problem) : Type 0 where
  pub few_rounds : p.rounds ≤ MAX_ROUNDS
  pub shape : IsShape p.ids p.rounds
  pub some_channels : 1 ≤ p.channels
  pub few_channels : p.channels ≤ MAX_CHANNELS

-- values that make all clauses hold describe a table that is asked for, so the formula asks for no more than the
-- problem
abbrev pub ModelsGiveSolutions : Type 0
ModelsGiveSolutions =
    (p : Problem) (values : ℕ → Bool) → HasTables p → All (Holds values) (formula p) →
    (t : ChannelTable) × IsSolution p t

-- there is no such table exactly if no values make all clauses hold
abbrev pub FormulaIsExact : Type 0
FormulaIsExact = (p : Problem) → HasTables p → IsImpossible p ↔ ((values : ℕ → Bool) → ¬ All (Holds values) (formula p))

-- the text of a formula, read as DIMACS, states exactly the formula: the number of its variables, and its clauses
-- in order
abbrev pub FormulaTextIsRead : Type 0
FormulaTextIsRead = (p : Problem) → IsWithinLimits p → ReadsAs (formula_text p) (variable_count p) (formula p)

-- a text states at most one formula
abbrev pub OneReading : Type 0
OneReading =
    (text : List ℕ) (m n : ℕ) (a b : List (List Literal)) → ReadsAs text m a → ReadsAs text n b → (m ≡ n) × (a ≡ b)

-- an exchange makes of each table that is asked for another one, in which each literal says after the exchange what
-- it said before
abbrev pub ExchangesKeepSolutions : Type 0
ExchangesKeepSolutions =
    (p : Problem) (t : ChannelTable) (x : Exchange) → can_exchange p x ≡ true → IsSolution p t
    → (u : ChannelTable) × IsSolution p u
    × ((l : Literal) → l.variable < variable_count p
    → is_true_literal (values_of p u) (exchanged_literal p x l) ≡ is_true_literal (values_of p t) l)
