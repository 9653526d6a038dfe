-- Clauses, and the values of their variables.
use Rattle.std.specs.Prelude.{◌==◌, ℕ, Bool, true, false, not, ◌&&◌, List, IsTrue}
use Rattle.std.specs.List.{list_any}
use Rattle.table_formula.specs.declared.literal.Literal.{Literal}

-- whether two truth values are the same
abbrev pub is_same_value : Bool → Bool → Bool
is_same_value true b = b
is_same_value false b = not b

-- whether two literals are the same
abbrev pub is_same : Literal → Literal → Bool
is_same a b = (a.variable == b.variable) && is_same_value a.is_positive b.is_positive

-- the literal of the same variable with the other sign
abbrev pub negated : Literal → Literal
negated l = record { variable = l.variable; is_positive = not l.is_positive }

-- whether a clause contains a literal
abbrev pub has_literal : List Literal → Literal → Bool
has_literal clause l = list_any (is_same l) clause

-- whether a literal is true under the values of the variables
abbrev pub is_true_literal : (ℕ → Bool) → Literal → Bool
is_true_literal values l = is_same_value (values l.variable) l.is_positive

-- a clause holds under the values of the variables: some literal is true
abbrev pub Holds : (ℕ → Bool) → List Literal → Type 0
Holds values clause = IsTrue (list_any (is_true_literal values) clause)
