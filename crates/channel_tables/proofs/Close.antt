-- Channels that are close, and channels that are apart.
use Rattle.std.proofs.Common.{◌≤◌, ◌≡◌, ℕ, ◌<◌, ◌⊎◌, Option, Some, None, IsSome, subst, ap, arith, inl, inr, ⊎_elim}
use Rattle.std.proofs.lemmas.Bool.{false≢true}
use Rattle.std.specs.Int.{abs_diff}
use Rattle.channel_tables.specs.declared.separation.Separation.{Separation}
use Rattle.channel_tables.specs.Apart.{extra, AreClose, AreApart}

apart_not_close : (distance : ℕ) (a b : Option ℕ) → AreApart distance a b → ¬ AreClose distance a b
apart_not_close distance (Some c) (Some d) apart close = omega arith
apart_not_close distance (Some c) None apart close = close
apart_not_close distance None b apart close = close

apart_of_not_close : (distance : ℕ) (a b : Option ℕ) → IsSome a → IsSome b → ¬ AreClose distance a b
    → AreApart distance a b
apart_of_not_close distance (Some c) (Some d) some_a some_b other =
    let none : ¬ (abs_diff c d < distance) = other in
    omega arith
apart_of_not_close distance (Some c) None some_a some_b other = absurd (false≢true some_b)
apart_of_not_close distance None b some_a some_b other = absurd (false≢true some_a)

-- no channels are closer than 0
pub some_distance : (distance : ℕ) (a b : Option ℕ) → AreClose distance a b → 0 < distance
some_distance distance (Some c) (Some d) close = omega arith
some_distance distance (Some c) None close = absurd close
some_distance distance None b close = absurd close

-- far is not 0 if channels are closer than far, so a tuple has a third window
pub two_of_far : (s : Separation) (a b : Option ℕ) → AreClose s.far a b → 2 ≤ extra s
two_of_far s a b close =
    let some = some_distance s.far a b close in
    omega arith

-- channels that are closer than 1 are the same
same_of_close : (a b : Option ℕ) → AreClose 1 a b → a ≡ b
same_of_close (Some c) (Some d) close =
    let equal : c ≡ d = omega arith in
    ap Some equal
same_of_close (Some c) None close = absurd close
same_of_close None b close = absurd close

pub close_of_same : (a b : Option ℕ) → IsSome a → a ≡ b → AreClose 1 a b
close_of_same a b some same = subst (AreClose 1 a) same (own a some)
  where
    own : (a : Option ℕ) → IsSome a → AreClose 1 a a
    own (Some c) some = omega arith
    own None some = absurd (false≢true some)

-- equal channels are equally close
pub close_along : (distance : ℕ) {a b c d : Option ℕ} → a ≡ c → b ≡ d → AreClose distance a b → AreClose distance c d
close_along distance first second close = rw (← first, ← second) close

-- channels that are closer than a distance are closer than a greater one
pub closer : (less distance : ℕ) (a b : Option ℕ) → less ≤ distance → AreClose less a b → AreClose distance a b
closer less distance (Some c) (Some d) le close = omega (arith, le, close)
closer less distance (Some c) None le close = absurd close
closer less distance None b le close = absurd close

-- the first channel and the second one, or the first one and the third one, are too close
abbrev pub AreTooClose : Separation → Option ℕ → Option ℕ → Option ℕ → Type 0
AreTooClose s a b c = AreClose s.near a b ⊎ AreClose s.far a c

pub too_close_along : (s : Separation) {a b c d e f : Option ℕ} → a ≡ d → b ≡ e → (2 ≤ extra s → c ≡ f)
    → AreTooClose s a b c → AreTooClose s d e f
too_close_along s {a} {b} {c} {d} {e} {f} first second third close =
    ⊎_elim (λ (near : AreClose s.near a b). inl (close_along s.near first second near))
    (λ (far : AreClose s.far a c). inr (close_along s.far first (third (two_of_far s a c far)) far)) close

pub too_close_for_more : (less s : Separation) (a b c : Option ℕ) → less.near ≤ s.near → less.far ≤ s.far
    → AreTooClose less a b c → AreTooClose s a b c
too_close_for_more less s a b c near far close =
    ⊎_elim (λ (own : AreClose less.near a b). inl (closer less.near s.near a b near own))
    (λ (own : AreClose less.far a c). inr (closer less.far s.far a c far own)) close

pub same_of_too_close : (a b c : Option ℕ) → AreTooClose (record { near = 1; far = 0 }) a b c → a ≡ b
same_of_too_close a b c close =
    ⊎_elim (same_of_close a b)
    (λ (far : AreClose 0 a c). let some = some_distance 0 a c far in absurd (omega arith)) close

pub apart_not_too_close : (s : Separation) (a b c : Option ℕ) → AreApart s.near a b × AreApart s.far a c
    → ¬ AreTooClose s a b c
apart_not_too_close s a b c apart = ⊎_elim (apart_not_close s.near a b apart.0) (apart_not_close s.far a c apart.1)

pub apart_of_not_too_close :
    (s : Separation) (a b c : Option ℕ) → IsSome a → IsSome b → IsSome c → ¬ AreTooClose s a b c
    → AreApart s.near a b × AreApart s.far a c
apart_of_not_too_close s a b c some_a some_b some_c other =
    (apart_of_not_close s.near a b some_a some_b (λ close. other (inl close)), apart_of_not_close s.far a c some_a some_c (λ close. other (inr close)))
