-- Tuples suffice: the windows of three places in a row of a ring are windows of a tuple, and those of a tuple are
-- on its ring.
use Rattle.std.proofs.Common.{◌≡◌, ℕ, ◌+◌, ◌-◌, ◌*◌, ◌<◌, ◌≤◌, ◌↔◌, Bool, IsTrue, List, Option, MatchOption, None}
use Rattle.std.proofs.Common.{is_some, length, get_or, slice_get, Some, subst, sym, ap, ◌∙◌, arith}
use Rattle.std.proofs.lemmas.Bool.{false≢true}
use Rattle.std.proofs.lemmas.Option.{slice_get-get_or, slice_get_within, get_or_from_slice_get, same_Some}
use Rattle.win_index.specs.Arcs.{arc, window_around, part_at}
use Rattle.win_index.specs.Ring.{IsRing}
use Rattle.win_index.specs.Windows.{IsWindow}
use Rattle.win_index.proofs.Windows.{around_window}
use Rattle.channel_tables.specs.Tables.{ChannelTable, channel_of}
use Rattle.ring_problems.specs.declared.pattern.Pattern.{Pattern}
use Rattle.ring_problems.specs.Patterns.{extra, IsForbidden, IsFirstMatch}
use Rattle.ring_problems.specs.Problems.{tuples, IsBad, IsSolved, IsSolvedEverywhere, NoneIsBad, IsLeastBad}
use Rattle.ring_problems.specs.Laws.{TuplesSuffice, BadTuplesAreRings, OneWitness}
use Rattle.ring_problems.specs.Laws.{SolvedTablesHaveNoWitness, WitnessesAreOnRings}
use Rattle.ring_problems.specs.Witnesses.{IsWitness}
use Rattle.ring_problems.specs.TupleLists.{IsTuple, ring_of}
use Rattle.ring_problems.proofs.TupleParts.{tuple_parts, tuple_place}
use Rattle.ring_problems.proofs.Arounds.{around_tuple, tuple_ring}
use Rattle.ring_problems.proofs.Matching.{extra_range, forbidden_along, first_is_forbidden, one_first}

-- no tuple of a table that solves the problem is bad
pub none_bad : (t : ChannelTable) (problem : List Pattern) (n : ℕ) (tuple : List ℕ) → IsSolved t problem
    → slice_get (tuples t problem) n ≡ Some tuple → ¬ IsBad t problem tuple
none_bad t problem n tuple solved item bad =
    solved n tuple (slice_get_within (tuples t problem) n tuple item)
    (rw (get_or_from_slice_get (tuples t problem) n tuple tuple item) bad)

pub bad_ring : BadTuplesAreRings
unfolding IsBad
bad_ring t problem tuple is bad =
    let range = extra_range problem in
    let ring = tuple_ring t.ids t.rounds problem tuple is in
    let along = λ (step : ℕ) (le : step ≤ extra problem). ap (channel_of t) (ring.1 step le) in
    (ring.0, forbidden_along problem _ _ _ _ _ _ (along 0 (omega arith)) (along 1 range.0) (along 2) bad)

-- a tuple is bad exactly if these channels of its windows are forbidden
pub bad_by_channels : (t : ChannelTable) (problem : List Pattern) (tuple : List ℕ) (first second : ℕ) (third : Option ℕ)
    → channel_of t (part_at t.rounds 0 tuple) ≡ Some first → channel_of t (part_at t.rounds 1 tuple) ≡ Some second
    → (2 ≤ extra problem → third ≡ channel_of t (part_at t.rounds 2 tuple))
    → IsForbidden problem (Some first) (Some second) third ↔ IsBad t problem tuple
unfolding IsBad
bad_by_channels t problem tuple first second third at_first at_second at_third = (
  forbidden_along problem _ _ _ _ _ _ (sym at_first) (sym at_second) at_third,
  forbidden_along problem _ _ _ _ _ _ at_first at_second (λ long. sym (at_third long)),
)

-- a test for a first pattern
pub found_is_bad : (problem : List Pattern) (first second third : Option ℕ) (Bad : Type 0)
    (found : Option Pattern) (is : Bool)
    → MatchOption found (¬ IsForbidden problem first second third) (IsFirstMatch problem first second third)
    → is ≡ is_some found → IsForbidden problem first second third ↔ Bad → IsTrue is ↔ Bad
found_is_bad problem first second third Bad None is none is_is same =
    (λ yes. absurd (false≢true (sym is_is ∙ yes)), λ bad. absurd (none (same.1 bad)))
found_is_bad problem first second third Bad (Some pattern) is some is_is same =
    (λ _. same.0 (first_is_forbidden problem first second third pattern some), λ _. is_is)

everywhere_of_solved : (t : ChannelTable) (problem : List Pattern) → IsSolved t problem → IsSolvedEverywhere t problem
unfolding IsBad
everywhere_of_solved t problem solved ring place is within broken =
    let range = extra_range problem in
    let around = around_tuple t.ids t.rounds place problem ring is in
    let list = arc ring (place + length ring - t.rounds) (2 * t.rounds + 1 + extra problem) in
    let numbered = tuple_place t.ids t.rounds problem list around.0 in
    let along = λ (step : ℕ) (le : step ≤ extra problem). sym (ap (channel_of t) (around.1 step le)) in
    none_bad t problem numbered.0 list solved numbered.1
    (forbidden_along problem _ _ _ _ _ _ (along 0 (omega arith)) (along 1 range.0) (along 2) broken)

-- a tuple by its number
pub tuple_at : (t : ChannelTable) (problem : List Pattern) (n : ℕ) (tuple : List ℕ)
    → slice_get (tuples t problem) n ≡ Some tuple
    → IsTuple t.ids t.rounds problem tuple
tuple_at t problem n tuple item = (tuple_parts t.ids t.rounds n problem tuple item).is

solved_of_everywhere : (t : ChannelTable) (problem : List Pattern) → IsSolvedEverywhere t problem → IsSolved t problem
solved_of_everywhere t problem good k d within bad =
    let tuple = get_or (tuples t problem) k d in
    let ring = bad_ring t problem tuple
    (tuple_at t problem k tuple (slice_get-get_or (tuples t problem) k d within)) bad in
    let long = ring.0.long in
    good (ring_of tuple) t.rounds ring.0 (omega arith) ring.1

pub suffice : TuplesSuffice
suffice t problem = (everywhere_of_solved t problem, solved_of_everywhere t problem)

-- a table without a bad tuple
pub none_is_solved : (t : ChannelTable) (problem : List Pattern) (count : ℕ) → count ≡ length (tuples t problem)
    → NoneIsBad t problem 0 count → IsSolvedEverywhere t problem
none_is_solved t problem count all none =
    everywhere_of_solved t problem
    (λ k d within. none k (get_or (tuples t problem) k d) (omega arith) (omega arith)
    (slice_get-get_or (tuples t problem) k d within))

-- a table with a bad tuple
pub bad_is_not_solved : (t : ChannelTable) (problem : List Pattern) (n : ℕ) (tuple : List ℕ)
    → IsLeastBad t problem 0 n tuple → ¬ IsSolvedEverywhere t problem
bad_is_not_solved t problem n tuple bad good =
    none_bad t problem n tuple (solved_of_everywhere t problem good) bad.item bad.bad

pub no_witness : SolvedTablesHaveNoWitness
no_witness t problem ring place channels pattern good w = bad_is_not_solved t problem w.number w.tuple w.least good

-- no bad tuple has a lower number than the least one
least : (t : ChannelTable) (problem : List Pattern) (n k : ℕ) (x y : List ℕ) → IsLeastBad t problem 0 n x
    → IsLeastBad t problem 0 k y → n ≤ k
least t problem n k x y a b = let none : ¬ (k < n) = λ lt. a.least k y (omega arith) lt b.item b.bad in omega arith

pub one_witness : OneWitness
one_witness t problem ring other i j c d p q a b =
    let after = least t problem a.number b.number a.tuple b.tuple a.least b.least in
    let before = least t problem b.number a.number b.tuple a.tuple b.least a.least in
    let number : a.number ≡ b.number = omega arith in
    let tuple : a.tuple ≡ b.tuple =
    same_Some a.tuple b.tuple (sym a.least.item ∙ ap (slice_get (tuples t problem)) number ∙ b.least.item) in
    let same : ring ≡ other = a.ring_is ∙ ap ring_of tuple ∙ sym b.ring_is in
    let place : i ≡ j = a.place_is ∙ sym b.place_is in
    let first : c.0 ≡ d.0 = same_Some c.0 d.0 (sym a.first_channel
    ∙ (λ k. channel_of t (window_around (same k) t.rounds (place k + 0))) ∙ b.first_channel) in
    let second : c.1 ≡ d.1 =
    same_Some c.1 d.1 (sym a.second_channel
    ∙ (λ k. channel_of t (window_around (same k) t.rounds (place k + 1))) ∙ b.second_channel) in
    let third : c.2 ≡ d.2 = same_Some c.2 d.2 (sym a.third_channel
    ∙ (λ k. channel_of t (window_around (same k) t.rounds (place k + 2))) ∙ b.third_channel) in
    let channels : c ≡ d = λ k. (first k, second k, third k) in
    let there = subst (λ e. IsFirstMatch problem (Some e.0) (Some e.1) (Some e.2) q) (sym channels) b.pattern_is in
    (same, place, channels, one_first problem _ _ _ p q a.pattern_is there)

-- the witness as a ring
pub witness_on_ring : WitnessesAreOnRings
witness_on_ring t problem ring place channels pattern w =
    let broken = bad_ring t problem w.tuple (tuple_at t problem w.number w.tuple w.least.item) w.least.bad in
    let is : IsRing t.ids t.rounds ring = subst (IsRing t.ids t.rounds) (sym w.ring_is) broken.0 in
    let long = is.long in
    let forbidden = first_is_forbidden problem _ _ _ pattern w.pattern_is in
    (is, omega (arith, w.place_is, long), forbidden_along problem _ _ _ _ _ _ (sym w.first_channel) (sym w.second_channel) (λ _. sym w.third_channel) forbidden)

-- a pattern matches the channels of the windows around the ring of the least bad tuple
pub least_is_matched :
    (t : ChannelTable) (problem : List Pattern) (n first second third : ℕ) (own tuple around : List ℕ)
    → IsLeastBad t problem 0 n tuple → slice_get (tuples t problem) n ≡ Some own
    → ((step : ℕ) → step ≤ 2 → part_at t.rounds step around ≡ window_around (ring_of own) t.rounds (t.rounds + step))
    → channel_of t (part_at t.rounds 0 around) ≡ Some first → channel_of t (part_at t.rounds 1 around) ≡ Some second
    → channel_of t (part_at t.rounds 2 around) ≡ Some third
    → IsForbidden problem (Some first) (Some second) (Some third)
least_is_matched t problem n first second third own tuple around bad item windows at_first at_second at_third =
    let same : tuple ≡ own = same_Some tuple own (sym bad.item ∙ item) in
    let broken = bad_ring t problem own (tuple_at t problem n own item) (subst (IsBad t problem) same bad.bad) in
    let along = λ (step : ℕ) (le : step ≤ 2). sym (ap (channel_of t) (windows step le)) in
    forbidden_along problem _ _ _ _ _ _ (along 0 (omega arith) ∙ at_first) (along 1 (omega arith) ∙ at_second)
    (λ _. along 2 (omega arith) ∙ at_third) broken.1

-- what is the window around a place of a ring is a window
pub window_there : (t : ChannelTable) (step : ℕ) (ring part : List ℕ) → IsRing t.ids t.rounds ring
    → part ≡ window_around ring t.rounds (t.rounds + step) → IsWindow (2 * t.rounds + 1) t.ids part
window_there t step ring part is same =
    subst (IsWindow (2 * t.rounds + 1) t.ids) (sym same)
    (around_window t.ids t.rounds t.rounds (t.rounds + step) ring is (omega arith))

-- the ring of the least bad tuple
pub is_witness :
    (t : ChannelTable) (problem : List Pattern) (n place : ℕ) (ring own tuple around : List ℕ) (channels : ℕ × ℕ × ℕ)
    (pattern : Pattern)
    → IsLeastBad t problem 0 n tuple → slice_get (tuples t problem) n ≡ Some own → ring ≡ ring_of own → place ≡ t.rounds
    → ((step : ℕ) → step ≤ 2 → part_at t.rounds step around ≡ window_around (ring_of own) t.rounds (t.rounds + step))
    → channel_of t (part_at t.rounds 0 around) ≡ Some channels.0
    → channel_of t (part_at t.rounds 1 around) ≡ Some channels.1
    → channel_of t (part_at t.rounds 2 around) ≡ Some channels.2
    → IsFirstMatch problem (Some channels.0) (Some channels.1) (Some channels.2) pattern
    → IsWitness t problem ring place channels pattern
is_witness t problem n place ring own tuple around channels pattern bad item ring_is at' windows first second third matches =
    let along = λ (step : ℕ) (le : step ≤ 2).
    (λ i. channel_of t (window_around (ring_is i) t.rounds (at' i + step)))
    ∙ sym (ap (channel_of t) (windows step le)) in
    record {
      number = n;
      tuple = own;
      least = subst (IsLeastBad t problem 0 n) (same_Some tuple own (sym bad.item ∙ item)) bad;
      ring_is = ring_is;
      place_is = at';
      first_channel = along 0 (omega arith) ∙ first;
      second_channel = along 1 (omega arith) ∙ second;
      third_channel = along 2 (omega arith) ∙ third;
      pattern_is = matches;
    }
