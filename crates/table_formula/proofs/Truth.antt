-- Truth values, and literals under the values of variables.
use Rattle.std.proofs.Common.{◌≡◌, ◌==◌, ℕ, Bool, true, false, not, ◌&&◌, ◌||◌, ◌⊎◌, refl, ap, ◌∙◌, inl, inr}
use Rattle.std.proofs.lemmas.Bool.{eqb-true}
use Rattle.table_formula.specs.Clauses.{is_same_value, is_same, negated, is_true_literal}
use Rattle.table_formula.specs.declared.literal.Literal.{Literal}

pub truth : (b : Bool) → (b ≡ true) ⊎ (b ≡ false)
truth true = inl refl
truth false = inr refl

pub or_true : (a b : Bool) → (a || b) ≡ true → (a ≡ true) ⊎ (b ≡ true)
or_true true b h = inl refl
or_true false b h = inr h

pub or_false : (a b : Bool) → (a || b) ≡ false → (a ≡ false) × (b ≡ false)
or_false true b h = cc
or_false false b h = (refl, h)

pub and_true : (a b : Bool) → (a && b) ≡ true → (a ≡ true) × (b ≡ true)
and_true true b h = (refl, h)
and_true false b h = cc

pub same_values : (a b : Bool) → is_same_value a b ≡ true → a ≡ b
same_values true true h = refl
same_values true false h = cc
same_values false true h = cc
same_values false false h = refl

-- a literal of the same variable with the other sign than a true one is false
other_sign : (v p q : Bool) → is_same_value q (not p) ≡ true → is_same_value v p ≡ true → is_same_value v q ≡ false
other_sign true true true h k = cc
other_sign true true false h k = refl
other_sign true false q h k = cc
other_sign false true q h k = cc
other_sign false false true h k = refl
other_sign false false false h k = cc

pub same_literals : (values : ℕ → Bool) (a b : Literal) → is_same a b ≡ true
    → is_true_literal values a ≡ is_true_literal values b
same_literals values a b h =
    let both = and_true (a.variable == b.variable) (is_same_value a.is_positive b.is_positive) h in
    let variable : a.variable ≡ b.variable = eqb-true a.variable b.variable both.0 in
    let sign : a.is_positive ≡ b.is_positive = same_values a.is_positive b.is_positive both.1 in
    λ i. is_same_value (values (variable i)) (sign i)

pub negated_is_false : (values : ℕ → Bool) (l k : Literal) → is_true_literal values l ≡ true
    → is_same k (negated l) ≡ true → is_true_literal values k ≡ false
negated_is_false values l k holds same =
    let both = and_true (k.variable == l.variable) (is_same_value k.is_positive (not l.is_positive)) same in
    let variable : k.variable ≡ l.variable = eqb-true k.variable l.variable both.0 in
    ap (λ v. is_same_value (values v) k.is_positive) variable
    ∙ other_sign (values l.variable) l.is_positive k.is_positive both.1 holds
