-- Patterns that match, and by how much tuples are longer than windows.
use Rattle.std.proofs.Common.{◌≡◌, ℕ, ◌<◌, ◌≤◌, Bool, true, false, cond, List, Option, Some, slice_get, sym, ap, ◌∙◌}
use Rattle.std.proofs.Common.{refl, arith}
use Rattle.std.proofs.lemmas.Map.Keys.{any_passes_from_place}
use Rattle.std.proofs.lemmas.Option.{same_Some}
use Rattle.ring_problems.specs.declared.pattern.Entry.{Entry}
use Rattle.ring_problems.specs.declared.pattern.Entry.TheVariants.{Wildcard, Channel}
use Rattle.ring_problems.specs.declared.pattern.Pattern.{Pattern}
use Rattle.ring_problems.specs.Patterns.{Fits, Matches, IsForbidden, IsFirstMatch, is_channel, has_third}
use Rattle.ring_problems.specs.Patterns.{is_long, extra}

two_or_one : (b : Bool) → (1 ≤ cond b 2 1) × (cond b 2 1 ≤ 2)
two_or_one true = (omega arith, omega arith)
two_or_one false = (omega arith, omega arith)

pub extra_range : (problem : List Pattern) → (1 ≤ extra problem) × (extra problem ≤ 2)
extra_range problem = two_or_one (is_long problem)

-- a pattern that asks something of the third place makes tuples longer
pub extra_of_third : (problem : List Pattern) (n : ℕ) (p : Pattern) → slice_get problem n ≡ Some p → has_third p ≡ true
    → extra problem ≡ 2
extra_of_third problem n p item third = ap (λ b. cond b 2 1) (any_passes_from_place has_third problem n p item third)

-- the channel matters only to an entry that asks for one
fits_along : (e : Entry) (a b : Option ℕ) → (is_channel e ≡ true → a ≡ b) → Fits e a → Fits e b
fits_along Wildcard a b same fits = tt
fits_along (Channel c) a b same fits = sym (same refl) ∙ fits

pub matches_along :
    (p : Pattern) (a b c d e f : Option ℕ) → a ≡ d → b ≡ e → (has_third p ≡ true → c ≡ f) → Matches p a b c
    → Matches p d e f
matches_along p a b c d e f first second third m =
    (fits_along p.first a d (λ h. first) m.0, fits_along p.second b e (λ h. second) m.1, fits_along p.third c f third m.2)

pub forbidden_along :
    (problem : List Pattern) (a b c d e f : Option ℕ) → a ≡ d → b ≡ e → (2 ≤ extra problem → c ≡ f)
    → IsForbidden problem a b c → IsForbidden problem d e f
forbidden_along problem a b c d e f first second third bad = (
  bad.0,
  bad.1,
  bad.2,
  matches_along bad.1 a b c d e f first second
      (λ h. let two = extra_of_third problem bad.0 bad.1 bad.2 h in third (omega arith)) bad.3,
)

pub first_along :
    (problem : List Pattern) (a b c d e f : Option ℕ) (p : Pattern) → a ≡ d → b ≡ e → (2 ≤ extra problem → c ≡ f)
    → IsFirstMatch problem a b c p → IsFirstMatch problem d e f p
first_along problem a b c d e f p first second third own =
    let longer : (n : ℕ) (q : Pattern) → slice_get problem n ≡ Some q → has_third q ≡ true → c ≡ f = λ n q item h.
    let two = extra_of_third problem n q item h in third (omega arith) in
    record {
      number = own.number;
      item = own.item;
      matches = matches_along p a b c d e f first second (longer own.number p own.item) own.matches;
      first = λ n q lt item m. own.first n q lt item
          (matches_along q d e f a b c (sym first) (sym second) (λ h. sym (longer n q item h)) m);
    }

pub first_is_forbidden : (problem : List Pattern) (a b c : Option ℕ) (p : Pattern) → IsFirstMatch problem a b c p
    → IsForbidden problem a b c
first_is_forbidden problem a b c p own = (own.number, p, own.item, own.matches)

-- there is one first pattern
pub one_first : (problem : List Pattern) (a b c : Option ℕ) (p q : Pattern) → IsFirstMatch problem a b c p
    → IsFirstMatch problem a b c q → p ≡ q
one_first problem a b c p q x y =
    let after : ¬ (y.number < x.number) = λ lt. x.first y.number q lt y.item y.matches in
    let before : ¬ (x.number < y.number) = λ lt. y.first x.number p lt x.item x.matches in
    let number : x.number ≡ y.number = omega arith in
    same_Some p q (sym x.item ∙ ap (slice_get problem) number ∙ y.item)
