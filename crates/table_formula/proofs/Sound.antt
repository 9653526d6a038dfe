-- Refutations are sound: each clause of a derivation holds for each table that solves the problem.
use Rattle.std.proofs.Common.{◌≡◌, ◌==◌, ℕ, ◌-◌, ◌<◌, Bool, true, false, ◌&&◌, ◌||◌, cond, ltb, List, [], ◌∷◌, Option}
use Rattle.std.proofs.Common.{None, Some, IfSome, All, map, get_or, slice_get, refl, sym, ◌∙◌, subst}
use Rattle.std.specs.List.{list_any, list_all}
use Rattle.std.proofs.lemmas.Bool.{ltb-true}
use Rattle.std.proofs.lemmas.Option.{slice_get_within, get_or_from_slice_get}
use Rattle.channel_tables.specs.Tables.{ChannelTable}
use Rattle.table_formula.specs.Clauses.{is_true_literal, Holds}
use Rattle.table_formula.specs.Steps.{StepsAreSound}
use Rattle.table_formula.specs.declared.literal.Literal.{Literal}
use Rattle.table_formula.specs.declared.refutation.outcome.Outcome.{Outcome}
use Rattle.table_formula.specs.declared.refutation.outcome.Outcome.TheVariants as outcome
use Rattle.table_formula.specs.Problems.{Problem, IsSolution}
use Rattle.table_formula.specs.Formula.{variable_count, formula, values_of}
use Rattle.table_formula.specs.Exchanges.{exchanged_literal}
use Rattle.table_formula.specs.declared.formula.exchange.Exchange.{Exchange}
use Rattle.table_formula.specs.Laws.{SolutionsSatisfy, ExchangesKeepSolutions}
use Rattle.table_formula.specs.declared.refutation.fault.LineFault.TheVariants as fault
use Rattle.table_formula.specs.Lines.{Line, Comment, Deletion, Addition, line_in}
use Rattle.table_formula.specs.Derivations.{Derivation, opening, hints_fault, line_fault, after_line, adds_empty}
use Rattle.table_formula.specs.Refutations.{Leads}
use Rattle.table_formula.specs.RefutationLaws.{RefutationsAreSound}

-- each clause that a number names holds for each table that solves the problem
abbrev AllHold : Problem → Derivation → Type 0
AllHold p d = (t : ChannelTable) → IsSolution p t → (number : ℕ) → IfSome (d.clauses number) (Holds (values_of p t))

either : (P : List Literal → Type 0) (b : Bool) (x y : Option (List Literal)) → IfSome x P → IfSome y P
    → IfSome (cond b x y) P
either P true x y h k = h
either P false x y h k = k

-- a fact of each value that an option has
if_some : (P : List Literal → Type 0) (o : Option (List Literal)) → ((x : List Literal) → o ≡ Some x → P x) → IfSome o P
if_some P None h = tt
if_some P (Some x) h = h x refl

at_index : (P : List Literal → Type 0) (xs : List (List Literal)) (n : ℕ) → All P xs → IfSome (slice_get xs n) P
at_index P xs n all = if_some P (slice_get xs n)
    (λ x e. subst P (get_or_from_slice_get xs n x x e) (all n x (slice_get_within xs n x e)))

-- a step without a fault
follows : (a b c : Bool) (o : Outcome)
    → cond a (Some fault.NumberNotAscending)
    (cond b (cond c (hints_fault o) (Some fault.Exchange)) (Some fault.UnknownVariable)) ≡ None
    → (b ≡ true) × (c ≡ true) × (o ≡ outcome.Follows)
follows true b c o h = cc
follows false false c o h = cc
follows false true false o h = cc
follows false true true outcome.Follows h = (refl, refl, refl)
follows false true true (outcome.UnknownHint hint) h = cc
follows false true true (outcome.SeveralLeft hint) h = cc
follows false true true (outcome.EarlyConflict hint) h = cc
follows false true true (outcome.OneLeft hint) h = cc
follows false true true outcome.NoHints h = cc

and_true : (a b : Bool) → (a && b) ≡ true → (a ≡ true) × (b ≡ true)
and_true true b h = (refl, h)
and_true false b h = cc

-- literals that have the same values one by one
any_same : (n : ℕ) (q r : Literal → Bool) (f : Literal → Literal) → ((l : Literal) → l.variable < n → q (f l) ≡ r l)
    → (clause : List Literal)
    → list_all (λ l. ltb l.variable n) clause ≡ true → list_any q (map f clause) ≡ list_any r clause
any_same n q r f same [] known = refl
any_same n q r f same (l ∷ ls) known =
    let both = and_true (ltb l.variable n) (list_all (λ k. ltb k.variable n) ls) known in
    let first = same l (ltb-true l.variable n both.0) in
    let rest = any_same n q r f same ls both.1 in
    λ i. first i || rest i

module _ (p : Problem) (steps : StepsAreSound) (keep : ExchangesKeepSolutions) where
  -- the clauses that hints name hold
  hints_hold : (d : Derivation) (hints : List ℕ) → AllHold p d → (t : ChannelTable) → IsSolution p t
      → All (λ hint. IfSome (d.clauses hint) (Holds (values_of p t))) hints
  hints_hold d hints hold t solution = λ k other within. hold t solution (get_or hints k other)

  -- an added clause holds for a table: after an exchange since what it becomes holds for the table after that exchange
  new_holds : (d : Derivation) (by : Option Exchange) (number : ℕ) (clause : List Literal) (hints : List ℕ)
      → AllHold p d
      → line_fault p d (Some (Addition by number clause hints)) ≡ None → (t : ChannelTable) → IsSolution p t
      → Holds (values_of p t) clause
  new_holds d None number clause hints hold right t solution =
      steps (values_of p t) d.clauses clause hints (follows _ _ true _ right).2 (hints_hold d hints hold t solution)
  new_holds d (Some x) number clause hints hold right t solution =
      let is = follows _ _ _ _ right in
      let other = keep p t x is.1 solution in
      let u : ChannelTable = other.0 in
      let holds : Holds (values_of p u) (map (exchanged_literal p x) clause) =
      steps (values_of p u) d.clauses (map (exchanged_literal p x) clause) hints is.2
      (hints_hold d hints hold u other.1) in
      sym (any_same (variable_count p) (is_true_literal (values_of p u)) (is_true_literal (values_of p t)) (exchanged_literal p x) other.2 clause is.0) ∙ holds

  hold_after : (d : Derivation) (line : Option Line) → AllHold p d → line_fault p d line ≡ None
      → AllHold p (after_line d line)
  hold_after d None hold right = cc
  hold_after d (Some Comment) hold right = hold
  hold_after d (Some (Deletion numbers)) hold right =
      λ t solution number. either (Holds (values_of p t)) (list_any (λ deleted. deleted == number) numbers) None
      (d.clauses number) tt (hold t solution number)
  hold_after d (Some (Addition by added clause hints)) hold right =
      λ t solution number. either (Holds (values_of p t)) (number == added) (Some clause) (d.clauses number)
      (new_holds d by added clause hints hold right t solution) (hold t solution number)

  hold_later : (d : Derivation) (lines : List (List ℕ)) (later : Derivation) → AllHold p d → Leads p d lines later
      → AllHold p later
  hold_later d [] later hold leads = subst (AllHold p) leads hold
  hold_later d (line ∷ lines) later hold leads =
      hold_later (after_line d (line_in line)) lines later (hold_after d (line_in line) hold leads.0) leads.2

  -- the empty clause does not hold
  no_empty : (d : Derivation) (line : Option Line) → AllHold p d → line_fault p d line ≡ None → adds_empty line ≡ true
      → (t : ChannelTable) → IsSolution p t → ⊥
  no_empty d None hold right empty t solution = cc
  no_empty d (Some Comment) hold right empty t solution = cc
  no_empty d (Some (Deletion numbers)) hold right empty t solution = cc
  no_empty d (Some (Addition by number [] hints)) hold right empty t solution =
      let no : false ≡ true = new_holds d by number [] hints hold right t solution in cc
  no_empty d (Some (Addition by number (l ∷ ls) hints)) hold right empty t solution = cc

pub sound : SolutionsSatisfy → StepsAreSound → ExchangesKeepSolutions → RefutationsAreSound
sound satisfied steps keep p text (before, here, d, reaches, right, empty) t solution =
    let opens : AllHold p (opening p) =
    λ u solves number. either (Holds (values_of p u)) (number == 0) None (slice_get (formula p) (number - 1)) tt
    (at_index (Holds (values_of p u)) (formula p) (number - 1) (satisfied p u solves)) in
    no_empty p steps keep d (line_in here) (hold_later p steps keep (opening p) before d opens reaches.right) right empty t solution
