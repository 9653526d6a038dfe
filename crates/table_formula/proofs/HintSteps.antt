-- The hints of a step, one by one.
use Rattle.std.proofs.Common.{◌≡◌, ◌==◌, ℕ, ◌+◌, ◌<◌, ◌≤◌, Bool, true, false, ◌||◌, List, ◌∷◌, Option, Some, option_map}
use Rattle.std.proofs.Common.{length, drop, get_or, refl, sym, ap, ◌∙◌, ⊎_elim, arith, add-one}
use Rattle.std.proofs.Common.{drop-cons, if◌then◌else◌}
use Rattle.std.proofs.lemmas.Bool.Decides.{eqb_tells}
use Rattle.std.proofs.lemmas.List.{drop_all}
use Rattle.table_formula.specs.Clauses.{is_same, negated}
use Rattle.table_formula.specs.Hints.{left_of, remaining_of, is_last, after_hint, outcome_of}
use Rattle.table_formula.specs.declared.literal.Literal.{Literal}
use Rattle.table_formula.specs.declared.refutation.marks.Remaining.{Remaining}
use Rattle.table_formula.specs.declared.refutation.marks.Remaining.TheVariants.{Nothing, One}
use Rattle.table_formula.specs.declared.refutation.outcome.Outcome.{Outcome}
use Rattle.table_formula.specs.declared.refutation.outcome.Outcome.TheVariants.{Follows, EarlyConflict}

are_apart : (n m : ℕ) → (n ≡ m → ⊥) → (n == m) ≡ false
are_apart n m apart =
    ⊎_elim (λ (yes : ((n == m) ≡ true) × (n ≡ m)). absurd (apart yes.1))
    (λ (no : ((n == m) ≡ false) × (n ≡ m → ⊥)). no.0) (eqb_tells n m)

-- the hints from a place on
module _ (f : ℕ → Option (List Literal)) (hints : List ℕ) where
  first : (n : ℕ) → n < length hints → drop n hints ≡ get_or hints n 0 ∷ drop (n + 1) hints
  first n lt = drop-cons hints n 0 lt ∙ ap (λ k. get_or hints n 0 ∷ drop k hints) (sym (add-one n))

  last_is : (n : ℕ) → n ≤ length hints → is_last (drop n hints) ≡ (n == length hints)
  last_is n le =
      ⊎_elim
      (λ (yes : ((n == length hints) ≡ true) × (n ≡ length hints)).
      ap is_last (drop_all n hints (omega (arith, yes.1))) ∙ sym yes.0)
      (λ (no : ((n == length hints) ≡ false) × (n ≡ length hints → ⊥)).
      let lt : n < length hints = let apart = no.1 in omega arith in
      ap is_last (first n lt) ∙ sym no.0)
      (eqb_tells n (length hints))

  -- the hint at a place, whose clause has these literals left, if it names one
  module _ (is_false : Literal → Bool) where
    abbrev others_after : ℕ → Literal → Outcome
    others_after i l = outcome_of f (λ k. is_false k || is_same k (negated l)) (drop (i + 1) hints)

    at_hint : (i : ℕ) (r : Option Remaining) → i < length hints
        → r ≡ option_map (λ clause. remaining_of (left_of is_false clause)) (f (get_or hints i 0))
        → after_hint (get_or hints i 0) r (i + 1 == length hints) (others_after i)
        ≡ outcome_of f is_false (drop i hints)
    at_hint i r lt is =
        ap (λ (b : Bool). after_hint (get_or hints i 0) r b (others_after i)) (sym (last_is (i + 1) (omega arith)))
        ∙ ap (λ (q : Option Remaining). after_hint (get_or hints i 0) q (is_last (drop (i + 1) hints)) (others_after i)) is
        ∙ sym (ap (outcome_of f is_false) (first i lt))

    nothing_left : (hint : ℕ) (last : Bool) (next : Literal → Outcome)
        → (if last then Follows else EarlyConflict hint) ≡ after_hint hint (Some Nothing) last next
    nothing_left hint true next = refl
    nothing_left hint false next = refl

    not_last : (hint : ℕ) (last : Bool) (l : Literal) (next : Literal → Outcome) → last ≡ false
        → next l ≡ after_hint hint (Some (One l)) last next
    not_last hint true l next is = cc
    not_last hint false l next is = refl

    pub at_nothing : (i : ℕ) → i < length hints
        → Some Nothing ≡ option_map (λ clause. remaining_of (left_of is_false clause)) (f (get_or hints i 0))
        → (if (i + 1 == length hints) then Follows else EarlyConflict (get_or hints i 0))
        ≡ outcome_of f is_false (drop i hints)
    at_nothing i lt is = nothing_left (get_or hints i 0) (i + 1 == length hints) (others_after i)
        ∙ at_hint i (Some Nothing) lt is

    pub at_one : (i : ℕ) (l : Literal) (more : Literal → Bool) → i < length hints → (i + 1 ≡ length hints → ⊥)
        → Some (One l) ≡ option_map (λ clause. remaining_of (left_of is_false clause)) (f (get_or hints i 0))
        → ((k : Literal) → more k ≡ (is_false k || is_same k (negated l)))
        → outcome_of f more (drop (i + 1) hints) ≡ outcome_of f is_false (drop i hints)
    at_one i l more lt last is same =
        let whole : more ≡ (λ k. is_false k || is_same k (negated l)) = λ j k. same k j in
        ap (λ (q : Literal → Bool). outcome_of f q (drop (i + 1) hints)) whole
        ∙ not_last (get_or hints i 0) (i + 1 == length hints) l (others_after i) (are_apart (i + 1) (length hints) last)
        ∙ at_hint i (Some (One l)) lt is
