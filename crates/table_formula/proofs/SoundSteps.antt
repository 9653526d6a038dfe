-- Steps are sound.
use Rattle.std.proofs.Common.{◌≡◌, ℕ, Bool, true, false, not, ◌||◌, List, [], ◌∷◌, Option, None, Some, IfSome, All}
use Rattle.std.proofs.Common.{option_map, refl, sym, ◌∙◌, ⊎_elim, cond}
use Rattle.std.specs.List.{list_any}
use Rattle.std.proofs.lemmas.List.Elements.{All-head, All-tail}
use Rattle.table_formula.specs.Clauses.{is_same, negated, has_literal, is_true_literal, Holds}
use Rattle.table_formula.specs.Hints.{left_of, remaining_of, is_last, after_hint, outcome_of}
use Rattle.table_formula.specs.Steps.{StepsAreSound}
use Rattle.table_formula.specs.declared.literal.Literal.{Literal}
use Rattle.table_formula.specs.declared.refutation.outcome.Outcome.{Outcome}
use Rattle.table_formula.specs.declared.refutation.outcome.Outcome.TheVariants.{Follows}
use Rattle.table_formula.proofs.Truth.{truth, or_true, or_false, same_literals, negated_is_false}

-- the literals that are known to be false are false
abbrev pub AreFalse : (ℕ → Bool) → (Literal → Bool) → Type 0
AreFalse values is_false = (l : Literal) → is_false l ≡ true → is_true_literal values l ≡ false

-- a literal that is kept or left out
one_left : (f t : Bool) (rest : Bool) (l : Literal) (left : List Literal) (values : ℕ → Bool)
    → is_true_literal values l ≡ t → (f ≡ true → t ≡ false) → rest ≡ list_any (is_true_literal values) left
    → (t || rest) ≡ list_any (is_true_literal values) (cond (not f) (l ∷ left) left)
one_left true true rest l left values is known same = let no : true ≡ false = known refl in cc
one_left true false rest l left values is known same = same
one_left false t rest l left values is known same = λ i. sym is i || same i

-- a clause holds exactly if one of the literals left does
any_left : (values : ℕ → Bool) (is_false : Literal → Bool) (clause : List Literal) → AreFalse values is_false
    → list_any (is_true_literal values) clause ≡ list_any (is_true_literal values) (left_of is_false clause)
any_left values is_false [] known = refl
any_left values is_false (l ∷ ls) known =
    one_left (is_false l) (is_true_literal values l) (list_any (is_true_literal values) ls) l
    (left_of is_false ls) values refl (known l)
    (any_left values is_false ls known)

-- a hint's clause that holds has a literal left, and it is true if it is the only one
on_left : (values : ℕ → Bool) (hint : ℕ) (left : List Literal) (last : Bool) (next : Literal → Outcome)
    → list_any (is_true_literal values) left ≡ true → after_hint hint (Some (remaining_of left)) last next ≡ Follows
    → (l : Literal) × (is_true_literal values l ≡ true) × (next l ≡ Follows)
on_left values hint [] last next holds follows = cc
on_left values hint (l ∷ []) true next holds follows = cc
on_left values hint (l ∷ []) false next holds follows = (
  l,
  ⊎_elim (λ (h : is_true_literal values l ≡ true). h) (λ (h : false ≡ true). cc)
      (or_true (is_true_literal values l) false holds),
  follows,
)
on_left values hint (l ∷ (m ∷ ls)) last next holds follows = cc

-- the same of a hint that may name no clause, where the literals that are known to be false are false
on_hint : (values : ℕ → Bool) (is_false : Literal → Bool) (hint : ℕ) (named : Option (List Literal)) (last : Bool)
    (next : Literal → Outcome)
    → AreFalse values is_false → IfSome named (Holds values)
    → after_hint hint (option_map (λ clause. remaining_of (left_of is_false clause)) named) last next ≡ Follows
    → (l : Literal) × (is_true_literal values l ≡ true) × (next l ≡ Follows)
on_hint values is_false hint None last next known holds follows = cc
on_hint values is_false hint (Some clause) last next known holds follows =
    on_left values hint (left_of is_false clause) last next (sym (any_left values is_false clause known)
    ∙ holds) follows

-- the hints' clauses cannot all hold where the literals are false
clash : (values : ℕ → Bool) (clauses : ℕ → Option (List Literal)) (is_false : Literal → Bool) (hints : List ℕ)
    → AreFalse values is_false
    → outcome_of clauses is_false hints ≡ Follows → All (λ hint. IfSome (clauses hint) (Holds values)) hints → ⊥
clash values clauses is_false [] known follows hold = cc
clash values clauses is_false (hint ∷ hints) known follows hold =
    let head = All-head (λ n. IfSome (clauses n) (Holds values)) hint hints hold in
    let found = on_hint values is_false hint (clauses hint) (is_last hints)
    (λ l. outcome_of clauses (λ k. is_false k || is_same k (negated l)) hints)
    known head follows in
    clash values clauses (λ k. is_false k || is_same k (negated found.0)) hints
    (λ k marked. ⊎_elim (λ (h : is_false k ≡ true). known k h) (λ (h : is_same k (negated found.0) ≡ true). negated_is_false values found.0 k found.1 h)
    (or_true (is_false k) (is_same k (negated found.0)) marked))
    found.2 (All-tail (λ n. IfSome (clauses n) (Holds values)) hint hints hold)

-- where a clause does not hold, its literals are false
all_false : (values : ℕ → Bool) (clause : List Literal) → list_any (is_true_literal values) clause ≡ false
    → AreFalse values (has_literal clause)
all_false values [] none l marked = cc
all_false values (c ∷ cs) none l marked =
    let both = or_false (is_true_literal values c) (list_any (is_true_literal values) cs) none in
    ⊎_elim (λ (h : is_same l c ≡ true). same_literals values l c h ∙ both.0)
    (λ (h : has_literal cs l ≡ true). all_false values cs both.1 l h)
    (or_true (is_same l c) (has_literal cs l) marked)

pub sound : StepsAreSound
sound values clauses clause hints follows hold =
    ⊎_elim (λ (h : list_any (is_true_literal values) clause ≡ true). h)
    (λ (h : list_any (is_true_literal values) clause ≡ false). absurd (clash values clauses (has_literal clause) hints (all_false values clause h) follows hold))
    (truth (list_any (is_true_literal values) clause))
