-- The position of an element in a list that has it at most once.
use Rattle.std.proofs.Common.{◌≡◌, ◌↔◌, ℕ, ◌<◌, Bool, true, false, Option, List, length, get_or, slice_get, Some, None}
use Rattle.std.proofs.Common.{IsSome, ◌⊎◌, inl, inr, ⊎_elim, refl, ap, ◌∙◌, arith}
use Rattle.std.specs.Prelude.{position}
use Rattle.std.proofs.lemmas.Bool.{lt-ltb, false_from_ne_true, false≢true}
use Rattle.std.proofs.lemmas.List.Quantifiers.{position-Some}
use Rattle.std.proofs.lemmas.List.Sums.{position_or_len_is}
use Rattle.std.proofs.lemmas.Option.{get_or_from_slice_get, slice_get-get_or, slice_get_within}

-- the test finds this element, which the list has at most once
pub record IsOnly {X : Type 0} (test : X → Bool) (xs : List X) (x : X) : Type 0 where
  pub same : (y : X) → (test y ≡ true → y ≡ x) × (y ≡ x → test y ≡ true)
  pub once : (i j : ℕ) → slice_get xs i ≡ Some x → slice_get xs j ≡ Some x → i ≡ j

module _ {X : Type 0} {test : X → Bool} {xs : List X} {x : X} (only : IsOnly test xs x) where
  pub position_some : (n : ℕ) → position test xs ≡ Some n → slice_get xs n ≡ Some x
  position_some n e =
      let at' = position-Some test xs n x e in
      slice_get-get_or xs n x at'.0 ∙ ap Some ((only.same (get_or xs n x)).0 at'.1)

  pub position_is : (n : ℕ) → slice_get xs n ≡ Some x → position test xs ≡ Some n
  position_is n at' =
      let within = slice_get_within xs n x at' in
      let earlier : (i : ℕ) → i < n → test (get_or xs i x) ≡ false = λ i lt.
      false_from_ne_true (test (get_or xs i x)) (λ h.
      let at_i = slice_get-get_or xs i x (omega arith) ∙ ap Some ((only.same (get_or xs i x)).0 h) in
      let equal = only.once i n at_i at' in
      absurd (omega arith)) in
      let own = (only.same (get_or xs n x)).1 (get_or_from_slice_get xs n x x at') in
      let first = position_or_len_is test xs n x (omega arith) earlier (λ _. own) in
      let found = lt-ltb n (length xs) within in
      rw (first, found)

  found_or_not : (o : Option ℕ) → position test xs ≡ o →
      (o ≡ None) ⊎ ((n : ℕ) × (o ≡ Some n) × (slice_get xs n ≡ Some x))
  found_or_not None e = inl refl
  found_or_not (Some n) e = inr (n, refl, position_some n e)

  -- an element has a position if and only if it has a property that the elements of the list have and no others
  module _ (P : Type 0) (each : (n : ℕ) → slice_get xs n ≡ Some x → P) where
    pub position_none : ¬ P → position test xs ≡ None
    position_none other =
        ⊎_elim (λ none. none) (λ found. absurd (other (each found.0 found.2))) (found_or_not (position test xs) refl)

    pub has_position : (P → (n : ℕ) × (slice_get xs n ≡ Some x)) → IsSome (position test xs) ↔ P
    has_position found = (
      λ some. ⊎_elim (λ none. absurd (false≢true (rw none at some))) (λ at'. each at'.0 at'.2)
          (found_or_not (position test xs) refl),
      λ own. rw (position_is (found own).0 (found own).1),
    )
