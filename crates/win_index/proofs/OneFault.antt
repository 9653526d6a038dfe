-- A list has one first fault, and a ring has none.
use Rattle.std.proofs.Common.{◌≡◌, ◌⊎◌, ℕ, ◌<◌, ◌≤◌, List, length, get_or, refl, sym, ap, ◌∙◌, arith, inl, inr, subst}
use Rattle.std.proofs.lemmas.Bool.{cases_order}
use Rattle.std.proofs.lemmas.List.{get_or-take, length-take-le}
use Rattle.win_index.specs.declared.ring.RingFault.TheVariants.{TooShort, TooLong, IdTooLarge, Repeated}
use Rattle.win_index.specs.Laws.{OneRingFault, RingsHaveNoFault}
use Rattle.win_index.specs.RingFaults.{HasNoFaultBefore, IsFirstFault}

module _ (m : ℕ) (x : List ℕ) where
  -- an identifier that occurs before place p is at some place before it
  abbrev Stood : ℕ → ℕ → Type 0
  Stood i p = (i < p) × (get_or x i 0 ≡ get_or x p 0)

  -- the first q identifiers are distinct
  apart : (q i j : ℕ) → q ≤ length x → HasNoFaultBefore q m x → j < q → Stood i j → ⊥
  apart q i j within clean lt stood =
      let size = length-take-le q x within in
      let first : i < q = omega (arith, stood.0) in
      clean.distinct i j 0 stood.0 (omega (arith, size))
      (get_or-take q x i 0 first ∙ stood.1 ∙ sym (get_or-take q x j 0 lt))

  -- the identifier of place p is too large, or occurs before it
  abbrev Faulty : ℕ → Type 0
  Faulty p = (m ≤ get_or x p 0) ⊎ ((i : ℕ) × Stood i p)

  not_before : (p q : ℕ) → q ≤ length x → HasNoFaultBefore q m x → Faulty p → p < q → ⊥
  not_before p q within clean (inl large) lt =
      let size = length-take-le q x within in
      let below : get_or x p 0 < m =
      subst (λ n. n < m) (get_or-take q x p 0 lt) (clean.below p 0 (omega (arith, size))) in
      absurd (omega arith)
  not_before p q within clean (inr (i, stood)) lt = apart q i p within clean lt stood

  same_place : (p q : ℕ) → p < length x → q < length x → HasNoFaultBefore p m x → HasNoFaultBefore q m x →
      Faulty p → Faulty q → p ≡ q
  same_place p q in_p in_q clean_p clean_q fault_p fault_q =
      elim (cases_order p q) [
        | inl e ↦ e
        | inr (inl lt) ↦ absurd (not_before p q (omega arith) clean_q fault_p lt)
        | inr (inr lt) ↦ absurd (not_before q p (omega arith) clean_p fault_q lt)
      ]

  one_first : (i j p : ℕ) → p < length x → HasNoFaultBefore p m x → Stood i p → Stood j p → i ≡ j
  one_first i j p within clean a b =
      elim (cases_order i j) [
        | inl e ↦ e
        | inr (inl lt) ↦ absurd (apart p i j (omega arith) clean b.0 (lt, a.1 ∙ sym b.1))
        | inr (inr lt) ↦ absurd (apart p j i (omega arith) clean a.0 (lt, b.1 ∙ sym a.1))
      ]

  -- faults of different kinds exclude each other
  mixed : (t p i q : ℕ) → IsFirstFault m t x (IdTooLarge p) → IsFirstFault m t x (Repeated i q) → ⊥
  mixed t p i q a b =
      let same = same_place p q a.1 b.1 a.2 b.2 (inl a.3) (inr (i, (b.4, b.5))) in
      let large : m ≤ get_or x q 0 = subst (λ k. m ≤ get_or x k 0) same a.3 in
      let low = b.3 in
      absurd (omega arith)

pub one_fault : OneRingFault
one_fault m t x TooShort TooShort a b = refl
one_fault m t x TooLong TooLong a b = refl
one_fault m t x (IdTooLarge p) (IdTooLarge q) a b =
    ap IdTooLarge (same_place m x p q a.1 b.1 a.2 b.2 (inl a.3) (inl b.3))
one_fault m t x (IdTooLarge p) (Repeated j q) a b = absurd (mixed m x t p j q a b)
one_fault m t x (Repeated i p) (IdTooLarge q) a b = absurd (mixed m x t q i p b a)
one_fault m t x (Repeated i p) (Repeated j q) a b =
    let place = same_place m x p q a.1 b.1 a.2 b.2 (inr (i, (a.4, a.5))) (inr (j, (b.4, b.5))) in
    let stood : Stood m x j p = subst (Stood m x j) (sym place) (b.4, b.5) in
    let first = one_first m x i j p a.1 a.2 (a.4, a.5) stood in
    λ k. Repeated (first k) (place k)
one_fault m t x f g a b = absurd (omega (arith, a, b))

pub no_fault : RingsHaveNoFault
no_fault m t x TooShort ring fault = omega (arith, ring.long, fault)
no_fault m t x TooLong ring fault = omega (arith, ring.short, fault.1)
no_fault m t x (IdTooLarge p) ring fault =
    let below : get_or x p 0 < m = ring.below p 0 fault.1 in
    let large = fault.3 in
    omega arith
no_fault m t x (Repeated i p) ring fault = ring.distinct i p 0 fault.4 fault.1 fault.5
