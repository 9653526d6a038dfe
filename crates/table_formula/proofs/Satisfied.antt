-- A table that is asked for makes all clauses hold.
use Rattle.std.proofs.Common.{◌≡◌, ◌==◌, ℕ, ◌+◌, ◌*◌, ◌<◌, ◌≤◌, Bool, true, false, ◌||◌, List, [], ◌∷◌, map, All}
use Rattle.std.proofs.Common.{length, get_or, Option, Some, IsSome, option_map, refl, sym, ap, ◌∙◌, subst, inl, inr}
use Rattle.std.proofs.Common.{arith, zero-add}
use Rattle.std.specs.Int.{abs_diff}
use Rattle.std.specs.List.{range_with_len, flat_map}
use Rattle.std.proofs.lemmas.Bool.{eqb-true, eq-eqb, ltb-true}
use Rattle.std.proofs.lemmas.List.Elements.{All-append, All-map, All-weaker}
use Rattle.std.proofs.lemmas.Nat.{div-mul-add, mod-mul-add}
use Rattle.std.proofs.lemmas.Option.{slice_get-get_or}
use Rattle.win_index.specs.Arcs.{part_at}
use Rattle.win_index.specs.Laws.{NumberOfWindow, WindowsHaveNumbers, RingsHaveWindows, TuplesAreRings}
use Rattle.win_index.specs.Windows.{number_of, IsWindow}
use Rattle.channel_tables.specs.Tables.{ChannelTable, IsTable, channel_of}
use Rattle.channel_tables.specs.declared.separation.Separation.{Separation}
use Rattle.channel_tables.specs.Apart.{extra, tuples, AreClose, IsBad, IsApart, IsApartEverywhere}
use Rattle.channel_tables.specs.Laws.{TuplesSuffice}
use Rattle.table_formula.specs.Clauses.{is_same_value, is_true_literal, Holds}
use Rattle.table_formula.specs.declared.formula.conflict.Conflict.{Conflict}
use Rattle.table_formula.specs.Problems.{Problem, IsSolution}
use Rattle.table_formula.specs.Formula.{windows_of, tuples_of, variable_of, values_of, has_channel, lacks_channel}
use Rattle.table_formula.specs.Formula.{some_channel, is_close, close_to, close_pairs, conflicts_of, window_in}
use Rattle.table_formula.specs.Formula.{not_both, not_too_close, apart_formula}
use Rattle.table_formula.proofs.ClauseLists.{all_flat, all_kept, all_below, some_value, any_map, any_in_range}

-- the value of a variable
pub value_at : (p : Problem) (t : ChannelTable) (w c : ℕ) → c < p.channels →
    values_of p t (variable_of p w c) ≡ (get_or t.entries w 0 == c)
value_at p t w c lt = λ i. get_or t.entries (div-mul-add w p.channels c lt i) 0 == mod-mul-add w p.channels c lt i

-- a window's clause
some_holds : (p : Problem) (t : ChannelTable) (w : ℕ) → get_or t.entries w 0 < p.channels →
    Holds (values_of p t) (some_channel p w)
some_holds p t w lt =
    let channel : ℕ = get_or t.entries w 0 in
    let passes : ℕ → Bool = λ c. is_true_literal (values_of p t) (has_channel p w c) in
    let own : passes channel ≡ true =
    ap (λ b. is_same_value b true) (value_at p t w channel lt ∙ eq-eqb channel channel refl) in
    any_map (is_true_literal (values_of p t)) (has_channel p w) (range_with_len 0 p.channels)
    ∙ any_in_range passes 0 p.channels channel lt (ap passes (zero-add channel) ∙ own)

-- a forbidden pair of channels, with its step and its distance
pub record IsClose (channels step distance : ℕ) (k : Conflict) : Type 0 where
  pub step_is : k.step ≡ step
  pub first_below : k.first < channels
  pub second_below : k.second < channels
  pub close : abs_diff k.first k.second < distance

pub all_close : (channels step distance : ℕ) → All (IsClose channels step distance) (close_pairs channels step distance)
all_close channels step distance =
    let P : Conflict → Type 0 = IsClose channels step distance in
    let below : ℕ → Type 0 = λ x. x < channels in
    all_flat P (close_to channels step distance) (range_with_len 0 channels)
    (All-weaker below (λ first. All P (close_to channels step distance first))
    (λ first lt.
    let pair : ℕ → Conflict = λ second. record { step = step; first = first; second = second } in
    let pairs : List Conflict = map pair (range_with_len 0 channels) in
    let Q : Conflict → Type 0 = λ k. (k.step ≡ step) × (k.first < channels) × (k.second < channels) in
    all_kept P Q (is_close distance) pairs
    (λ k parts test. record {
      step_is = parts.0;
      first_below = parts.1;
      second_below = parts.2;
      close = ltb-true (abs_diff k.first k.second) distance test;
    })
    (All-map Q pair (range_with_len 0 channels)
    (All-weaker below (λ second. Q (pair second)) (λ second below'. (refl, lt, below'))
    (range_with_len 0 channels) (all_below channels))))
    (range_with_len 0 channels) (all_below channels))

-- two negated variables that are not both true
not_two : (a b : Bool) → (a ≡ true → b ≡ true → ⊥) → (is_same_value a false || (is_same_value b false || false)) ≡ true
not_two true true h = absurd (h refl refl)
not_two true false h = refl
not_two false b h = refl

-- the clause of a pair of channels that two windows do not have
pair_holds : (p : Problem) (t : ChannelTable) (v w c d : ℕ) → c < p.channels → d < p.channels
    → (get_or t.entries v 0 ≡ c → get_or t.entries w 0 ≡ d → ⊥)
    → Holds (values_of p t) (lacks_channel p v c ∷ lacks_channel p w d ∷ [])
pair_holds p t v w c d c_below d_below other =
    not_two (values_of p t (variable_of p v c)) (values_of p t (variable_of p w d))
    (λ first second.
    other (eqb-true (get_or t.entries v 0) c (sym (value_at p t v c c_below) ∙ first))
    (eqb-true (get_or t.entries w 0) d (sym (value_at p t w d d_below) ∙ second)))

-- the problem of a table's shape, without patterns
abbrev pub problem_of : ChannelTable → ℕ → Separation → Problem
problem_of t channels s = record { ids = t.ids; rounds = t.rounds; channels = channels; separation = s; forbidden = [] }

-- a problem without its patterns
abbrev pub plain : Problem → Problem
plain p = record { ids = p.ids; rounds = p.rounds; channels = p.channels; separation = p.separation; forbidden = [] }

-- a table that is asked for has the problem's shape
pub same_problem : (p : Problem) (t : ChannelTable) → IsSolution p t → problem_of t p.channels p.separation ≡ plain p
same_problem p t solution = λ i. record {
  ids = solution.ids i;
  rounds = solution.rounds i;
  channels = p.channels;
  separation = p.separation;
  forbidden = [];
}

-- which has the same clauses of the separation
pub apart_same : (p : Problem) → apart_formula (plain p) ≡ apart_formula p
unfolding apart_formula
apart_same p = refl

module _ (suffice : TuplesSuffice) (is_ring : TuplesAreRings) (has_window : RingsHaveWindows)
    (has_number : WindowsHaveNumbers)
    (number_at : NumberOfWindow) where
  -- the channel of a window of a tuple
  pub part_channel : (t : ChannelTable) (s : Separation) (channels step : ℕ) (tuple : List ℕ) → step ≤ extra s
      → IsWindow (2 * t.rounds + 1 + extra s) t.ids tuple
      → channel_of t (part_at t.rounds step tuple)
      ≡ Some (get_or t.entries (window_in (problem_of t channels s) tuple step) 0)
  part_channel t s channels step tuple le window =
      let ring = is_ring t.ids t.rounds (extra s) tuple (omega arith) window in
      let is : IsWindow (2 * t.rounds + 1) t.ids (part_at t.rounds step tuple) =
      subst (IsWindow (2 * t.rounds + 1) t.ids) (ring.2 step le)
      (has_window t.ids t.rounds t.rounds (t.rounds + step) tuple ring.0 (omega arith)) in
      let number : Option ℕ = number_of (2 * t.rounds + 1) t.ids (part_at t.rounds step tuple) in
      ap (option_map (λ n. get_or t.entries n 0))
      (some_value number ((has_number (2 * t.rounds + 1) t.ids (part_at t.rounds step tuple)).1 is))

  -- channels of windows of a tuple that is not bad are not close
  not_close : (t : ChannelTable) (s : Separation) (channels step distance : ℕ) (tuple : List ℕ) (k : Conflict) →
      step ≤ extra s
      → IsWindow (2 * t.rounds + 1 + extra s) t.ids tuple → IsClose channels step distance k
      → (AreClose distance (channel_of t (part_at t.rounds 0 tuple)) (channel_of t (part_at t.rounds step tuple)) → ⊥)
      → Holds (values_of (problem_of t channels s) t) (not_both (problem_of t channels s) tuple k)
  not_close t s channels step distance tuple k le window close none =
      let p : Problem = problem_of t channels s in
      let here = part_channel t s channels 0 tuple (omega arith) window in
      let there = part_channel t s channels step tuple le window in
      pair_holds p t (window_in p tuple 0) (window_in p tuple k.step) k.first k.second close.first_below
      close.second_below
      (λ first second.
      let second' : get_or t.entries (window_in p tuple step) 0 ≡ k.second =
      ap (λ n. get_or t.entries (window_in p tuple n) 0) (sym close.step_is) ∙ second in
      let a : Some k.first ≡ channel_of t (part_at t.rounds 0 tuple) = sym (here ∙ ap Some first) in
      let b : Some k.second ≡ channel_of t (part_at t.rounds step tuple) = sym (there ∙ ap Some second') in
      let moved : AreClose distance (channel_of t (part_at t.rounds 0 tuple))
      (channel_of t (part_at t.rounds step tuple)) =
      subst (λ (o : Option ℕ). AreClose distance o (channel_of t (part_at t.rounds step tuple))) a
      (subst (λ (o : Option ℕ). AreClose distance (Some k.first) o) b close.close) in
      none moved)

  -- the clauses of a tuple that is not bad
  tuple_holds : (t : ChannelTable) (s : Separation) (channels : ℕ) (tuple : List ℕ) →
      IsWindow (2 * t.rounds + 1 + extra s) t.ids tuple → ¬ IsBad t s tuple
      → All (Holds (values_of (problem_of t channels s) t)) (not_too_close (problem_of t channels s) tuple)
  unfolding IsBad
  tuple_holds t s channels tuple window good =
      let p : Problem = problem_of t channels s in
      let P : Conflict → Type 0 = λ k. Holds (values_of p t) (not_both p tuple k) in
      let part : ℕ → Option ℕ = λ step. channel_of t (part_at t.rounds step tuple) in
      All-map (Holds (values_of p t)) (not_both p tuple) (conflicts_of p)
      (All-append P (close_pairs channels 1 s.near) (close_pairs channels 2 s.far)
      (All-weaker (IsClose channels 1 s.near) P
      (λ k close. not_close t s channels 1 s.near tuple k (omega arith) window close
      (λ (near : AreClose s.near (part 0) (part 1)). good (inl near)))
      (close_pairs channels 1 s.near) (all_close channels 1 s.near))
      (All-weaker (IsClose channels 2 s.far) P
      (λ k close.
      let some = close.close in
      not_close t s channels 2 s.far tuple k (omega arith) window close
      (λ (far : AreClose s.far (part 0) (part 2)). good (inr far)))
      (close_pairs channels 2 s.far) (all_close channels 2 s.far)))

  table_holds : (t : ChannelTable) (channels : ℕ) (s : Separation) → IsTable t → t.channels ≤ channels →
      IsApartEverywhere t s
      → All (Holds (values_of (problem_of t channels s) t)) (apart_formula (problem_of t channels s))
  unfolding apart_formula
  table_holds t channels s table few apart =
      let p : Problem = problem_of t channels s in
      let good : IsApart t s = (suffice t s).1 apart in
      All-append (Holds (values_of p t)) (map (some_channel p) (range_with_len 0 (length (windows_of p))))
      (flat_map (not_too_close p) (tuples_of p))
      (All-map (Holds (values_of p t)) (some_channel p) (range_with_len 0 (length (windows_of p)))
      (All-weaker (λ w. w < length (windows_of p)) (λ w. Holds (values_of p t) (some_channel p w))
      (λ w lt.
      let within : w < length t.entries = omega (arith, table.size) in
      some_holds p t w (omega (arith, table.begun.below w 0 within, few)))
      (range_with_len 0 (length (windows_of p))) (all_below (length (windows_of p)))))
      (all_flat (Holds (values_of p t)) (not_too_close p) (tuples_of p)
      (λ k d within.
      let tuple = get_or (tuples t s) k d in
      let item = slice_get-get_or (tuples t s) k d within in
      let numbered = number_at (2 * t.rounds + 1 + extra s) t.ids k tuple item in
      let window = (has_number (2 * t.rounds + 1 + extra s) t.ids tuple).0 (subst IsSome (sym numbered) refl) in
      tuple_holds t s channels tuple window (good k d within)))

  pub apart_satisfied : (p : Problem) (t : ChannelTable) → IsSolution p t
      → All (Holds (values_of p t)) (apart_formula p)
  apart_satisfied p t solution =
      subst (All (Holds (values_of p t))) (apart_same p)
      (subst (λ (q : Problem). All (Holds (values_of q t)) (apart_formula q)) (same_problem p t solution)
      (table_holds t p.channels p.separation solution.table solution.channels solution.apart))
