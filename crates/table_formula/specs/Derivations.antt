-- Derivations: the clauses that the hints of a step can name, and what a line does to them.
use Rattle.std.specs.Prelude.{◌==◌, ℕ, ◌-◌, Bool, true, false, List, [], ◌∷◌, Option, None, Some, map, length, nat_le}
use Rattle.std.specs.Prelude.{nat_lt, slice_get, if◌then◌else◌}
use Rattle.std.specs.List.{list_all, list_any}
use Rattle.table_formula.specs.Hints.{step_outcome}
use Rattle.table_formula.specs.declared.literal.Literal.{Literal}
use Rattle.table_formula.specs.declared.refutation.outcome.Outcome.{Outcome}
use Rattle.table_formula.specs.declared.refutation.outcome.Outcome.TheVariants as outcome
use Rattle.table_formula.specs.Problems.{Problem}
use Rattle.table_formula.specs.Formula.{variable_count, formula}
use Rattle.table_formula.specs.Exchanges.{can_exchange, exchanged_literal}
use Rattle.table_formula.specs.declared.formula.exchange.Exchange.{Exchange}
use Rattle.table_formula.specs.declared.refutation.fault.LineFault.{LineFault}
use Rattle.table_formula.specs.declared.refutation.fault.LineFault.TheVariants as fault
use Rattle.table_formula.specs.Lines.{Line, Comment, Deletion, Addition}

-- which clause each number names, and the number of the newest clause
pub record Derivation : Type 0 where
  pub clauses : ℕ → Option (List Literal)
  pub newest : ℕ

-- the clauses of the formula, numbered from 1 on
abbrev pub opening : Problem → Derivation
opening p = record {
  clauses = λ number. if number == 0 then None else slice_get (formula p) (number - 1);
  newest = length (formula p);
}

-- these numbers name no clause any more
abbrev pub without : Derivation → List ℕ → Derivation
without d numbers = record {
  clauses = λ number. if list_any (λ deleted. deleted == number) numbers then None else d.clauses number;
  newest = d.newest;
}

-- one more clause, which is the newest one
abbrev pub with_clause : Derivation → ℕ → List Literal → Derivation
with_clause d added clause = record {
  clauses = λ number. if number == added then Some clause else d.clauses number;
  newest = added;
}

-- whether all variables of a clause are variables of the formula
abbrev pub is_known : Problem → List Literal → Bool
is_known p clause = list_all (λ l. nat_lt l.variable (variable_count p)) clause

-- what is wrong with hints that show this of a clause
abbrev pub hints_fault : Outcome → Option LineFault
hints_fault outcome.Follows = None
hints_fault (outcome.UnknownHint hint) = Some (fault.UnknownHint hint)
hints_fault (outcome.SeveralLeft hint) = Some (fault.SeveralLeft hint)
hints_fault (outcome.EarlyConflict hint) = Some (fault.EarlyConflict hint)
hints_fault (outcome.OneLeft hint) = Some (fault.OneLeft hint)
hints_fault outcome.NoHints = Some fault.NoHints

-- whether a step may be after this exchange: there is none, or tables that solve the problem do so after it
abbrev pub may_exchange : Problem → Option Exchange → Bool
may_exchange p None = true
may_exchange p (Some exchange) = can_exchange p exchange

-- what a clause is after the exchange, if there is one
abbrev pub after_exchange : Problem → Option Exchange → List Literal → List Literal
after_exchange p None clause = clause
after_exchange p (Some exchange) clause = map (exchanged_literal p exchange) clause

-- what is wrong with the step that adds a clause: its number, else its variables, else the exchange, else the
-- hints, which have to show what the clause is after the exchange
abbrev pub step_fault : Problem → Derivation → Option Exchange → ℕ → List Literal → List ℕ → Option LineFault
step_fault p d exchange number clause hints =
    if nat_le number d.newest then Some fault.NumberNotAscending
    else if is_known p clause then
    (if may_exchange p exchange then hints_fault (step_outcome d.clauses (after_exchange p exchange clause) hints)
    else Some fault.Exchange)
    else Some fault.UnknownVariable

-- what is wrong with a line that says this, or that has none of the forms
abbrev pub line_fault : Problem → Derivation → Option Line → Option LineFault
line_fault p d None = Some fault.Form
line_fault p d (Some Comment) = None
line_fault p d (Some (Deletion numbers)) = None
line_fault p d (Some (Addition exchange number clause hints)) = step_fault p d exchange number clause hints

-- the derivation after a line that says this
abbrev pub after_line : Derivation → Option Line → Derivation
after_line d None = d
after_line d (Some Comment) = d
after_line d (Some (Deletion numbers)) = without d numbers
after_line d (Some (Addition exchange number clause hints)) = with_clause d number clause

abbrev pub is_empty : List Literal → Bool
is_empty [] = true
is_empty (l ∷ ls) = false

-- whether a line that says this adds the empty clause
abbrev pub adds_empty : Option Line → Bool
adds_empty None = false
adds_empty (Some Comment) = false
adds_empty (Some (Deletion numbers)) = false
adds_empty (Some (Addition exchange number clause hints)) = is_empty clause
