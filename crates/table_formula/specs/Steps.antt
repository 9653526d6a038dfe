-- The statement of the law that steps by unit propagation are sound.
use Rattle.std.specs.Prelude.{◌≡◌, ℕ, Bool, List, Option, IfSome, All}
use Rattle.table_formula.specs.Clauses.{Holds}
use Rattle.table_formula.specs.Hints.{step_outcome}
use Rattle.table_formula.specs.declared.literal.Literal.{Literal}
use Rattle.table_formula.specs.declared.refutation.outcome.Outcome.TheVariants.{Follows}

-- a clause that follows from the clauses of the hints holds wherever these hold
abbrev pub StepsAreSound : Type 0
StepsAreSound =
    (values : ℕ → Bool) (clauses : ℕ → Option (List Literal)) (clause : List Literal) (hints : List ℕ)
    → step_outcome clauses clause hints ≡ Follows → All (λ hint. IfSome (clauses hint) (Holds values)) hints
    → Holds values clause
