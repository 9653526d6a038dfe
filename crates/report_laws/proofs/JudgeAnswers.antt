-- The channels of each table are apart everywhere, or there is a witness that they are not.
use Rattle.std.proofs.Common.{◌≡◌, ℕ, zero, suc, ◌+◌, ◌*◌, ◌<◌, ◌≤◌, Option, Some, None, is_some, List, [], ◌∷◌, inl}
use Rattle.std.proofs.Common.{inr, refl, ap, subst, sym, arith}
use Rattle.std.specs.Prelude.{◌⊎◌, All, slice_get}
use Rattle.std.specs.Int.{abs_diff}
use Rattle.std.proofs.lemmas.Bool.{cases_lt}
use Rattle.std.proofs.lemmas.Option.{same_Some}
use Rattle.std.proofs.lemmas.List.Elements.{All-cons, All-nil}
use Rattle.win_index.specs.Arcs.{window_around, part_at}
use Rattle.win_index.specs.Laws.{NumberOfWindow, WindowsHaveNumbers}
use Rattle.win_index.specs.Windows.{IsWindow}
use Rattle.channel_tables.specs.Tables.{ChannelTable, channel_of}
use Rattle.channel_tables.specs.declared.separation.Separation.{Separation}
use Rattle.channel_tables.specs.Apart.{extra, AreClose, tuples, IsBad, IsApartEverywhere, IsLeastBad}
use Rattle.channel_tables.specs.Witnesses.{IsStep, IsWitness}
use Rattle.channel_tables.specs.Laws.{TuplesSuffice, BadTuplesAreRings}

-- a list is the first of these that is so
pub record IsFirst (P : List ℕ → Type 0) (xs : List (List ℕ)) : Type 0 where
  pub number : ℕ
  pub list : List ℕ
  pub item : slice_get xs number ≡ Some list
  pub is : P list
  pub before : (k : ℕ) (y : List ℕ) → k < number → slice_get xs k ≡ Some y → ¬ P y

-- none of these is so, or there is a first one
pub first_of : (P : List ℕ → Type 0) → ((x : List ℕ) → P x ⊎ (¬ P x)) → (xs : List (List ℕ)) →
    All (λ x. ¬ P x) xs ⊎ IsFirst P xs
first_of P decide [] = inl (All-nil (λ (x : List ℕ). ¬ P x))
first_of P decide (x ∷ xs) = go (decide x) (first_of P decide xs)
  where
    earlier : ¬ P x → (first : IsFirst P xs) → (k : ℕ) (y : List ℕ) → k < suc first.number →
        slice_get (x ∷ xs) k ≡ Some y → ¬ P y
    earlier not first zero y less item = λ is. not (subst P (sym (same_Some x y item)) is)
    earlier not first (suc k) y less item = first.before k y (omega (arith, less)) item

    go : P x ⊎ (¬ P x) → All (λ x. ¬ P x) xs ⊎ IsFirst P xs → All (λ x. ¬ P x) (x ∷ xs) ⊎ IsFirst P (x ∷ xs)
    go (inl is) rest =
        inr (record {
          number = 0;
          list = x;
          item = refl;
          is = is;
          before = λ k y less item. absurd (omega (arith, less));
        })
    go (inr not) (inl all) = inl (All-cons (λ (x : List ℕ). ¬ P x) x xs not all)
    go (inr not) (inr first) =
        inr (record {
          number = suc first.number;
          list = first.list;
          item = first.item;
          is = first.is;
          before = earlier not first;
        })

close_or_not : (d : ℕ) (o p : Option ℕ) → AreClose d o p ⊎ (¬ AreClose d o p)
close_or_not d (Some a) (Some b) = go (cases_lt (abs_diff a b) d)
  where
    go : (abs_diff a b < d) ⊎ (d ≤ abs_diff a b) → (abs_diff a b < d) ⊎ (¬ (abs_diff a b < d))
    go (inl close) = inl close
    go (inr apart) = inr (λ close. omega (arith, close, apart))
close_or_not d (Some a) None = inr (λ none. none)
close_or_not d None p = inr (λ none. none)

bad_or_not : (t : ChannelTable) (s : Separation) (tuple : List ℕ) → IsBad t s tuple ⊎ (¬ IsBad t s tuple)
unfolding IsBad
bad_or_not t s tuple = go (close_or_not s.near (at 0) (at 1)) (close_or_not s.far (at 0) (at 2))
  where
    at : ℕ → Option ℕ
    at step = channel_of t (part_at t.rounds step tuple)

    go : AreClose s.near (at 0) (at 1) ⊎ (¬ AreClose s.near (at 0) (at 1))
        → AreClose s.far (at 0) (at 2) ⊎ (¬ AreClose s.far (at 0) (at 2))
        → (AreClose s.near (at 0) (at 1) ⊎ AreClose s.far (at 0) (at 2)) ⊎
        (¬ (AreClose s.near (at 0) (at 1) ⊎ AreClose s.far (at 0) (at 2)))
    go (inl near) far = inl (inl near)
    go (inr apart) (inl far) = inl (inr far)
    go (inr apart) (inr wide) = inr neither
      where
        neither : AreClose s.near (at 0) (at 1) ⊎ AreClose s.far (at 0) (at 2) → ⊥
        neither (inl near) = apart near
        neither (inr far) = wide far

-- two windows that are close have channels
channels_of_close : (d : ℕ) (o p : Option ℕ) → AreClose d o p → (a : ℕ) × (b : ℕ) × (o ≡ Some a) × (p ≡ Some b)
channels_of_close d (Some a) (Some b) close = (a, b, refl, refl)
channels_of_close d (Some a) None close = absurd close
channels_of_close d None p close = absurd close

-- the channels are apart everywhere, or there is a witness
pub data JudgeAnswer (t : ChannelTable) (s : Separation) : Type 0 where
  apart : IsApartEverywhere t s → JudgeAnswer t s
  not_apart : (ring : List ℕ) (places channels : ℕ × ℕ) → IsWitness t s ring places channels → JudgeAnswer t s

module _ (suffice : TuplesSuffice) (bad_ring : BadTuplesAreRings) (number_at : NumberOfWindow)
    (have_numbers : WindowsHaveNumbers) where
  witness : (t : ChannelTable) (s : Separation) → IsFirst (IsBad t s) (tuples t s) → JudgeAnswer t s
  witness t s first = go (close_or_not s.near (at t.rounds) (at (t.rounds + 1))) broken
    where
      ring : List ℕ
      ring = first.list

      at : ℕ → Option ℕ
      at place = channel_of t (window_around ring t.rounds place)

      is_window : IsWindow (2 * t.rounds + 1 + extra s) t.ids ring
      is_window = (have_numbers _ _ ring).0 (ap is_some (number_at _ _ first.number ring first.item))

      broken : AreClose s.near (at t.rounds) (at (t.rounds + 1)) ⊎ AreClose s.far (at t.rounds) (at (t.rounds + 2))
      broken = (bad_ring t s ring is_window first.is).1

      least : IsLeastBad t s 0 first.number ring
      least = record {
        from_low = omega arith;
        item = first.item;
        bad = first.is;
        least = λ k y low less item. first.before k y less item;
      }

      -- the two places are so many steps apart
      broken_at : (distance step : ℕ) → AreClose distance (at t.rounds) (at (t.rounds + step)) →
          IsStep t s ring step → JudgeAnswer t s
      broken_at distance step close is =
          let told = channels_of_close distance (at t.rounds) (at (t.rounds + step)) close in
          not_apart ring (t.rounds, t.rounds + step) (told.0, told.1) (record {
            number = first.number;
            least = least;
            step = step;
            step_is = is;
            first_place = refl;
            second_place = refl;
            first_channel = told.2;
            second_channel = told.3;
          })

      go : AreClose s.near (at t.rounds) (at (t.rounds + 1)) ⊎ (¬ AreClose s.near (at t.rounds) (at (t.rounds + 1)))
          → AreClose s.near (at t.rounds) (at (t.rounds + 1)) ⊎ AreClose s.far (at t.rounds) (at (t.rounds + 2))
          → JudgeAnswer t s
      go (inl near) some = broken_at s.near 1 near (inl (near, refl))
      go (inr wide) (inl near) = absurd (wide near)
      go (inr wide) (inr far) = broken_at s.far 2 far (inr (wide, refl))

  pub judge_answer : (t : ChannelTable) (s : Separation) → JudgeAnswer t s
  judge_answer t s = go (first_of (IsBad t s) (bad_or_not t s) (tuples t s))
    where
      go : All (λ tuple. ¬ IsBad t s tuple) (tuples t s) ⊎ IsFirst (IsBad t s) (tuples t s) → JudgeAnswer t s
      go (inl none) = apart ((suffice t s).0 none)
      go (inr first) = witness t s first
