-- What the hints of a step show: unit propagation from the negation of a clause.
use Rattle.std.specs.Prelude.{ℕ, Bool, true, false, not, ◌||◌, List, [], ◌∷◌, Option, None, Some, filter, option_map}
use Rattle.table_formula.specs.Clauses.{is_same, negated, has_literal}
use Rattle.table_formula.specs.declared.literal.Literal.{Literal}
use Rattle.table_formula.specs.declared.refutation.marks.Remaining.{Remaining}
use Rattle.table_formula.specs.declared.refutation.marks.Remaining.TheVariants.{Nothing, One, Several}
use Rattle.table_formula.specs.declared.refutation.outcome.Outcome.{Outcome}
use Rattle.table_formula.specs.declared.refutation.outcome.Outcome.TheVariants.{Follows, UnknownHint, SeveralLeft}
use Rattle.table_formula.specs.declared.refutation.outcome.Outcome.TheVariants.{EarlyConflict, OneLeft, NoHints}

-- the literals of a clause that are not known to be false
abbrev pub left_of : (Literal → Bool) → List Literal → List Literal
left_of is_false clause = filter (λ l. not (is_false l)) clause

-- which literals are left: none, one, or several
abbrev pub remaining_of : List Literal → Remaining
remaining_of [] = Nothing
remaining_of (l ∷ []) = One l
remaining_of (l ∷ m ∷ ls) = Several

-- whether there is no further hint
abbrev pub is_last : List ℕ → Bool
is_last [] = true
is_last (hint ∷ hints) = false

-- what a hint shows whose clause has these literals left, if it names one, and whether it is the last one: of a
-- hint that is not, the one literal is true from then on
abbrev pub after_hint : ℕ → Option Remaining → Bool → (Literal → Outcome) → Outcome
after_hint hint None last next = UnknownHint hint
after_hint hint (Some Nothing) true next = Follows
after_hint hint (Some Nothing) false next = EarlyConflict hint
after_hint hint (Some (One l)) true next = OneLeft hint
after_hint hint (Some (One l)) false next = next l
after_hint hint (Some Several) last next = SeveralLeft hint

-- what hints show, in order, that name these clauses, where these literals are known to be false
abbrev pub outcome_of : (ℕ → Option (List Literal)) → (Literal → Bool) → List ℕ → Outcome
outcome_of clauses is_false [] = NoHints
outcome_of clauses is_false (hint ∷ hints) =
    after_hint hint (option_map (λ clause. remaining_of (left_of is_false clause)) (clauses hint)) (is_last hints)
    (λ l. outcome_of clauses (λ k. is_false k || is_same k (negated l)) hints)

-- what hints that name these clauses show of a clause: all its literals are taken to be false
abbrev pub step_outcome : (ℕ → Option (List Literal)) → List Literal → List ℕ → Outcome
step_outcome clauses clause hints = outcome_of clauses (has_literal clause) hints
