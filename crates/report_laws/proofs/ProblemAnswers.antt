-- Each table solves a problem, or there is a witness that it does not.
use Rattle.std.proofs.Common.{◌≡◌, ℕ, zero, suc, ◌+◌, ◌<◌, Option, Some, None, IsSome, unwrap_or, option_map, List, []}
use Rattle.std.proofs.Common.{◌∷◌, inl, inr, refl, ap, subst, sym, arith}
use Rattle.std.specs.Prelude.{◌⊎◌, ◌*◌, ◌==◌, All, true, false, slice_get, slice_index}
use Rattle.std.proofs.lemmas.Bool.Decides.{eqb_tells}
use Rattle.std.proofs.lemmas.Option.{none-some, same_Some}
use Rattle.win_index.specs.Arcs.{window_around, part_at}
use Rattle.win_index.specs.Laws.{RingsHaveWindows, WindowsHaveNumbers}
use Rattle.win_index.specs.Ring.{IsRing}
use Rattle.win_index.specs.Windows.{number_of}
use Rattle.channel_tables.specs.Tables.{ChannelTable, channel_of}
use Rattle.ring_problems.specs.declared.pattern.Entry.{Entry}
use Rattle.ring_problems.specs.declared.pattern.Entry.TheVariants.{Wildcard, Channel}
use Rattle.ring_problems.specs.declared.pattern.Pattern.{Pattern}
use Rattle.ring_problems.specs.Patterns.{Fits, Matches, IsForbidden, IsFirstMatch}
use Rattle.ring_problems.specs.TupleLists.{ring_of}
use Rattle.ring_problems.specs.Problems.{tuples, IsBad, IsLeastBad, IsSolvedEverywhere}
use Rattle.ring_problems.specs.Witnesses.{IsWitness}
use Rattle.ring_problems.specs.Laws.{TuplesSuffice, BadTuplesAreRings}
use Rattle.ring_problems.proofs.Problems.{tuple_at}
use Rattle.report_laws.proofs.JudgeAnswers.{first_of, IsFirst}

fits_or_not : (e : Entry) (o : Option ℕ) → Fits e o ⊎ (¬ Fits e o)
fits_or_not Wildcard o = inl tt
fits_or_not (Channel c) None = inr (λ fits. none-some c fits)
fits_or_not (Channel c) (Some d) = go (eqb_tells d c)
  where
    go : (((d == c) ≡ true) × (d ≡ c)) ⊎ (((d == c) ≡ false) × (d ≡ c → ⊥)) → (Some d ≡ Some c) ⊎ (¬ (Some d ≡ Some c))
    go (inl same) = inl (ap Some same.1)
    go (inr other) = inr (λ fits. other.1 (same_Some d c fits))

all_or_not : (A B C : Type 0) → A ⊎ (¬ A) → B ⊎ (¬ B) → C ⊎ (¬ C) → (A × B × C) ⊎ (¬ (A × B × C))
all_or_not A B C (inl a) (inl b) (inl c) = inl (a, b, c)
all_or_not A B C (inl a) (inl b) (inr c) = inr (λ all. c all.2)
all_or_not A B C (inl a) (inr b) c = inr (λ all. b all.1)
all_or_not A B C (inr a) b c = inr (λ all. a all.0)

matches_or_not : (p : Pattern) (a b c : Option ℕ) → Matches p a b c ⊎ (¬ Matches p a b c)
matches_or_not p a b c =
    all_or_not (Fits p.first a) (Fits p.second b) (Fits p.third c) (fits_or_not p.first a) (fits_or_not p.second b)
    (fits_or_not p.third c)

-- a first pattern matches, or none does
first_or_none : (problem : List Pattern) (a b c : Option ℕ)
    → ((p : Pattern) × IsFirstMatch problem a b c p) ⊎ (¬ IsForbidden problem a b c)
first_or_none [] a b c = inr (λ bad. none-some bad.1 bad.2)
first_or_none (p ∷ ps) a b c = go (matches_or_not p a b c) (first_or_none ps a b c)
  where
    before : (q : Pattern) → ¬ Matches p a b c → (own : IsFirstMatch ps a b c q) → (n : ℕ) (other : Pattern)
        → n < suc own.number
        → slice_get (p ∷ ps) n ≡ Some other → ¬ Matches other a b c
    before q not own zero other lt item = λ m. not (subst (λ x. Matches x a b c) (sym (same_Some p other item)) m)
    before q not own (suc n) other lt item = own.first n other (omega (arith, lt)) item

    none : ¬ Matches p a b c → ¬ IsForbidden ps a b c → (n : ℕ) (q : Pattern) → slice_get (p ∷ ps) n ≡ Some q
        → ¬ Matches q a b c
    none not rest zero q item = λ m. not (subst (λ x. Matches x a b c) (sym (same_Some p q item)) m)
    none not rest (suc n) q item = λ m. rest (n, q, item, m)

    go : Matches p a b c ⊎ (¬ Matches p a b c) → ((q : Pattern) × IsFirstMatch ps a b c q) ⊎ (¬ IsForbidden ps a b c)
        → ((q : Pattern) × IsFirstMatch (p ∷ ps) a b c q) ⊎ (¬ IsForbidden (p ∷ ps) a b c)
    go (inl m) rest =
        inl (p, record { number = 0; item = refl; matches = m; first = λ n q lt item. absurd (omega (arith, lt)) })
    go (inr not) (inl found) =
        inl (found.0, record { number = suc found.1.number; item = found.1.item; matches = found.1.matches; first = before found.0 not found.1 })
    go (inr not) (inr rest) = inr (λ bad. none not rest bad.0 bad.1 bad.2 bad.3)

bad_or_not : (t : ChannelTable) (problem : List Pattern) (tuple : List ℕ)
    → IsBad t problem tuple ⊎ (¬ IsBad t problem tuple)
unfolding IsBad
bad_or_not t problem tuple = go (first_or_none problem (at 0) (at 1) (at 2))
  where
    at : ℕ → Option ℕ
    at step = channel_of t (part_at t.rounds step tuple)

    go : ((p : Pattern) × IsFirstMatch problem (at 0) (at 1) (at 2) p) ⊎ (¬ IsForbidden problem (at 0) (at 1) (at 2))
        → IsForbidden problem (at 0) (at 1) (at 2) ⊎ (¬ IsForbidden problem (at 0) (at 1) (at 2))
    go (inl found) = inl (found.1.number, found.0, found.1.item, found.1.matches)
    go (inr none) = inr none

-- the table solves the problem, or there is a witness
pub data ProblemAnswer (t : ChannelTable) (problem : List Pattern) : Type 0 where
  solves : IsSolvedEverywhere t problem → ProblemAnswer t problem
  breaks : (ring : List ℕ) (place : ℕ) (channels : ℕ × ℕ × ℕ) (pattern : Pattern)
      → IsWitness t problem ring place channels pattern
      → ProblemAnswer t problem

some_number : (o : Option ℕ) → IsSome o → o ≡ Some (unwrap_or o 0)
some_number None h = cc
some_number (Some n) h = refl

some_channel : (f : ℕ → ℕ) (o : Option ℕ) → IsSome o → IsSome (option_map f o)
some_channel f None h = cc
some_channel f (Some n) h = refl

module _ (suffice : TuplesSuffice) (bad_ring : BadTuplesAreRings) (have : WindowsHaveNumbers)
    (rings : RingsHaveWindows) where
  -- each place of a ring has a channel
  channel_there : (t : ChannelTable) (ring : List ℕ) (place : ℕ) → IsRing t.ids t.rounds ring
      → channel_of t (window_around ring t.rounds place)
      ≡ Some (unwrap_or (channel_of t (window_around ring t.rounds place)) 0)
  channel_there t ring place is =
      let long = is.long in
      let window = window_around ring t.rounds place in
      some_number (channel_of t window)
      (some_channel (slice_index t.entries) (number_of (2 * t.rounds + 1) t.ids window)
      ((have (2 * t.rounds + 1) t.ids window).1 (rings t.ids t.rounds t.rounds place ring is (omega arith))))

  witness : (t : ChannelTable) (problem : List Pattern) → IsFirst (IsBad t problem) (tuples t problem)
      → ProblemAnswer t problem
  witness t problem first = go (first_or_none problem (Some (at 0)) (Some (at 1)) (Some (at 2)))
    where
      ring : List ℕ
      ring = ring_of first.list

      broken : IsRing t.ids t.rounds ring
          × IsForbidden problem (channel_of t (window_around ring t.rounds (t.rounds + 0)))
          (channel_of t (window_around ring t.rounds (t.rounds + 1)))
          (channel_of t (window_around ring t.rounds (t.rounds + 2)))
      broken = bad_ring t problem first.list (tuple_at t problem first.number first.list first.item) first.is

      at : ℕ → ℕ
      at step = unwrap_or (channel_of t (window_around ring t.rounds (t.rounds + step))) 0

      is : (step : ℕ) → channel_of t (window_around ring t.rounds (t.rounds + step)) ≡ Some (at step)
      is step = channel_there t ring (t.rounds + step) broken.0

      same : IsForbidden problem (Some (at 0)) (Some (at 1)) (Some (at 2))
      same =
          let bad = broken.1 in (
            bad.0,
            bad.1,
            bad.2,
            (subst (Fits bad.1.first) (is 0) bad.3.0, subst (Fits bad.1.second) (is 1) bad.3.1, subst (Fits bad.1.third) (is 2) bad.3.2),
          )

      least : IsLeastBad t problem 0 first.number first.list
      least = record {
        from_low = omega arith;
        item = first.item;
        bad = first.is;
        least = λ k y low less item. first.before k y less item;
      }

      go : ((p : Pattern) × IsFirstMatch problem (Some (at 0)) (Some (at 1)) (Some (at 2)) p)
          ⊎ (¬ IsForbidden problem (Some (at 0)) (Some (at 1)) (Some (at 2))) → ProblemAnswer t problem
      go (inr none) = absurd (none same)
      go (inl found) =
          breaks ring t.rounds (at 0, at 1, at 2) found.0 (record {
            number = first.number;
            tuple = first.list;
            least = least;
            ring_is = refl;
            place_is = refl;
            first_channel = is 0;
            second_channel = is 1;
            third_channel = is 2;
            pattern_is = found.1;
          })

  pub problem_answer : (t : ChannelTable) (problem : List Pattern) → ProblemAnswer t problem
  problem_answer t problem = go (first_of (IsBad t problem) (bad_or_not t problem) (tuples t problem))
    where
      go : All (λ tuple. ¬ IsBad t problem tuple) (tuples t problem) ⊎ IsFirst (IsBad t problem) (tuples t problem)
          → ProblemAnswer t problem
      go (inl none) = solves ((suffice t problem).0 none)
      go (inr first) = witness t problem first
