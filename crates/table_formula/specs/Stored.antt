-- The clauses that a checker holds. No public contract cites this file.
use Rattle.std.specs.Prelude.{ℕ, false, List, Option, None, length, nat_lt, slice_index_or, if◌then◌else◌}
use Rattle.table_formula.specs.declared.literal.Literal.{Literal}
use Rattle.table_formula.specs.Formula.{formula}
use Rattle.table_formula.specs.declared.refutation.clauses.Clauses.{Clauses}
use Rattle.table_formula.specs.Added.{added_clause}
use Rattle.table_formula.specs.Derivations.{opening}

-- the clause that a number names
abbrev pub clause_of : Clauses → ℕ → Option (List Literal)
clause_of clauses number =
    if nat_lt (length (formula clauses.formula.now)) number then added_clause clauses.added number
    else (if slice_index_or clauses.deleted.items number false then None
    else (opening clauses.formula.now).clauses number)
