-- Tuples suffice: the windows of near places of a ring are windows of a tuple.
use Rattle.std.proofs.Common.{◌≡◌, ℕ, ◌+◌, ◌-◌, ◌*◌, ◌<◌, ◌≤◌, ◌⊎◌, List, Option, length, get_or, slice_get}
use Rattle.std.proofs.Common.{slice_index, Some, IsSome, option_map, subst, sym, ap, ◌∙◌, arith, refl, inl, inr, ⊎_elim}
use Rattle.std.proofs.lemmas.Option.{slice_get-get_or, slice_get_within, get_or_from_slice_get, same_Some}
use Rattle.win_index.specs.Arcs.{arc, window_around, part_at}
use Rattle.win_index.specs.Ring.{IsRing}
use Rattle.win_index.specs.Windows.{IsWindow}
use Rattle.win_index.proofs.Windows.{around_window, windows_all, number_of_is, window_place, tuple_ring, ring_tuple}
use Rattle.channel_tables.specs.Tables.{ChannelTable, channel_of, windows_of}
use Rattle.channel_tables.specs.declared.separation.Separation.{Separation}
use Rattle.channel_tables.specs.Apart.{extra, tuples, AreClose, IsBad, IsApart, IsApartEverywhere}
use Rattle.channel_tables.specs.Apart.{NoneIsBad, IsLeastBad}
use Rattle.channel_tables.specs.Laws.{TuplesSuffice, BadTuplesAreRings, OneWitness}
use Rattle.channel_tables.specs.Laws.{ApartTablesHaveNoWitness, WitnessesAreOnRings}
use Rattle.channel_tables.specs.Witnesses.{IsStep, IsWitness}
use Rattle.channel_tables.proofs.Close.{two_of_far, too_close_along, apart_not_too_close, apart_of_not_too_close}

-- the channel of the window with a number
pub channel_at :
    (t : ChannelTable) (n : ℕ) (window : List ℕ) → slice_get (windows_of t) n ≡ Some window
    → channel_of t window ≡ Some (slice_index t.entries n)
channel_at t n window item =
    ap (option_map (slice_index t.entries)) (number_of_is (2 * t.rounds + 1) t.ids n window item)

-- a window has a channel
pub channel_some : (t : ChannelTable) (window : List ℕ) → IsWindow (2 * t.rounds + 1) t.ids window
    → IsSome (channel_of t window)
channel_some t window is =
    let place = window_place (2 * t.rounds + 1) t.ids window is in
    rw (channel_at t place.0 window place.1) refl

-- so have the windows of a ring
pub channel_around : (t : ChannelTable) (ring : List ℕ) (place : ℕ) → IsRing t.ids t.rounds ring
    → IsSome (channel_of t (window_around ring t.rounds place))
channel_around t ring place is =
    channel_some t (window_around ring t.rounds place)
    (around_window t.ids t.rounds t.rounds place ring is (omega arith))

-- no tuple of a table whose tuples are apart is bad
pub none_bad : (t : ChannelTable) (s : Separation) (n : ℕ) (tuple : List ℕ) → IsApart t s
    → slice_get (tuples t s) n ≡ Some tuple → ¬ IsBad t s tuple
none_bad t s n tuple apart item bad =
    apart n tuple (slice_get_within (tuples t s) n tuple item)
    (rw (get_or_from_slice_get (tuples t s) n tuple tuple item) bad)

pub bad_ring : BadTuplesAreRings
unfolding IsBad
bad_ring t s tuple window bad =
    let ring = tuple_ring t.ids t.rounds (extra s) tuple (omega arith) window in
    let along = λ (step : ℕ) (le : step ≤ extra s). sym (ap (channel_of t) (ring.2 step le)) in
    (ring.0, too_close_along s (sym (ap (channel_of t) ring.1)) (along 1 (omega arith)) (along 2) bad)

everywhere_of_apart : (t : ChannelTable) (s : Separation) → IsApart t s → IsApartEverywhere t s
unfolding IsBad
everywhere_of_apart t s apart ring place is long within =
    let len = 2 * t.rounds + 1 + extra s in
    let around = ring_tuple t.ids t.rounds (extra s) place ring is long in
    let list = arc ring (place + length ring - t.rounds) len in
    let numbered = window_place len t.ids list around.0 in
    let along = λ (step : ℕ) (le : step ≤ extra s). sym (ap (channel_of t) (around.2 step le)) in
    apart_of_not_too_close s _ _ _ (channel_around t ring place is) (channel_around t ring (place + 1) is)
    (channel_around t ring (place + 2) is)
    (λ close. none_bad t s numbered.0 list apart numbered.1
    (too_close_along s (sym (ap (channel_of t) around.1)) (along 1 (omega arith)) (along 2) close))

apart_of_everywhere : (t : ChannelTable) (s : Separation) → IsApartEverywhere t s → IsApart t s
apart_of_everywhere t s good k d within bad =
    let tuple = get_or (tuples t s) k d in
    let window = windows_all (2 * t.rounds + 1 + extra s) t.ids k tuple (slice_get-get_or (tuples t s) k d within) in
    let ring = bad_ring t s tuple window bad in
    let size = window.size in
    apart_not_too_close s _ _ _ (good tuple t.rounds ring.0 (omega arith) (omega arith)) ring.1

pub suffice : TuplesSuffice
suffice t s = (everywhere_of_apart t s, apart_of_everywhere t s)

-- a table without a bad tuple
pub none_is_apart : (t : ChannelTable) (s : Separation) (count : ℕ) → count ≡ length (tuples t s)
    → NoneIsBad t s 0 count → IsApartEverywhere t s
none_is_apart t s count all none =
    everywhere_of_apart t s (λ k d within. none k (get_or (tuples t s) k d) (omega arith) (omega arith) (slice_get-get_or (tuples t s) k d within))

-- a table with a bad tuple
pub bad_is_not_apart : (t : ChannelTable) (s : Separation) (n : ℕ) (tuple : List ℕ) → IsLeastBad t s 0 n tuple
    → ¬ IsApartEverywhere t s
bad_is_not_apart t s n tuple bad good = none_bad t s n tuple (apart_of_everywhere t s good) bad.item bad.bad

pub no_witness : ApartTablesHaveNoWitness
no_witness t s ring places channels good w = bad_is_not_apart t s w.number ring w.least good

-- no bad tuple has a lower number than the least one
least : (t : ChannelTable) (s : Separation) (n k : ℕ) (x y : List ℕ) → IsLeastBad t s 0 n x
    → IsLeastBad t s 0 k y → n ≤ k
least t s n k x y a b = let none : ¬ (k < n) = λ lt. a.least k y (omega arith) lt b.item b.bad in omega arith

-- the step of a ring is unique
one_step : (P : Type 0) (i j : ℕ) → (P × (i ≡ 1)) ⊎ ((¬ P) × (i ≡ 2)) → (P × (j ≡ 1)) ⊎ ((¬ P) × (j ≡ 2)) → i ≡ j
one_step P i j (inl a) (inl b) = a.1 ∙ sym b.1
one_step P i j (inl a) (inr b) = absurd (b.0 a.0)
one_step P i j (inr a) (inl b) = absurd (a.0 b.0)
one_step P i j (inr a) (inr b) = a.1 ∙ sym b.1

pub one_witness : OneWitness
one_witness t s ring other i j c d a b =
    let after = least t s a.number b.number ring other a.least b.least in
    let before = least t s b.number a.number other ring b.least a.least in
    let number : a.number ≡ b.number = omega arith in
    let same : ring ≡ other =
    same_Some ring other (sym a.least.item ∙ ap (slice_get (tuples t s)) number ∙ b.least.item) in
    let step : a.step ≡ b.step =
    one_step _ a.step b.step a.step_is (subst (λ r. IsStep t s r b.step) (sym same) b.step_is) in
    let first : i.0 ≡ j.0 = a.first_place ∙ sym b.first_place in
    let second : i.1 ≡ j.1 = a.second_place ∙ ap (λ k. t.rounds + k) step ∙ sym b.second_place in
    let here : c.0 ≡ d.0 =
    same_Some c.0 d.0 (sym a.first_channel ∙ (λ k. channel_of t (window_around (same k) t.rounds (first k)))
    ∙ b.first_channel) in
    let there : c.1 ≡ d.1 =
    same_Some c.1 d.1 (sym a.second_channel ∙ (λ k. channel_of t (window_around (same k) t.rounds (second k)))
    ∙ b.second_channel) in
    (same, (λ k. (first k, second k)), (λ k. (here k, there k)))

-- the witness as a ring, and its places
pub witness_on_ring : WitnessesAreOnRings
witness_on_ring t s ring places channels w =
    let window = windows_all (2 * t.rounds + 1 + extra s) t.ids w.number ring w.least.item in
    let broken = bad_ring t s ring window w.least.bad in
    let long = broken.0.long in
    let at' : ℕ → Option ℕ = λ place. channel_of t (window_around ring t.rounds place) in
    let near : Type 0 = AreClose s.near (at' t.rounds) (at' (t.rounds + 1)) in
    let second : t.rounds + w.step < length ring =
    ⊎_elim (λ (one : near × (w.step ≡ 1)). omega (arith, one.1, long))
    (λ (two : (¬ near) × (w.step ≡ 2)). ⊎_elim (λ (close : near). absurd (two.0 close))
    (λ (far : AreClose s.far (at' t.rounds) (at' (t.rounds + 2))). omega (arith, two.1, window.size, two_of_far s (at' t.rounds) (at' (t.rounds + 2)) far))
    broken.1) w.step_is in
    (broken.0, omega (arith, w.first_place, long), omega (arith, w.second_place, second))

-- the least bad tuple as a ring
pub is_witness :
    (t : ChannelTable) (s : Separation) (n place step first second : ℕ) (ring tuple : List ℕ) → IsLeastBad t s 0 n tuple
    → slice_get (tuples t s) n ≡ Some ring → IsWindow (2 * t.rounds + 1 + extra s) t.ids ring → place ≡ t.rounds
    → (let close = AreClose s.near (channel_of t (part_at t.rounds 0 ring)) (channel_of t (part_at t.rounds 1 ring)) in
    (close × (step ≡ 1)) ⊎ ((¬ close) × (step ≡ 2)))
    → step ≤ extra s → channel_of t (part_at t.rounds 0 ring) ≡ Some first
    → channel_of t (part_at t.rounds step ring) ≡ Some second
    → IsWitness t s ring (place, place + step) (first, second)
is_witness t s n place step first second ring tuple bad item window at' step_is few here there =
    let parts = tuple_ring t.ids t.rounds (extra s) ring (omega arith) window in
    record {
      number = n;
      least = subst (IsLeastBad t s 0 n) (same_Some tuple ring (sym bad.item ∙ item)) bad;
      step = step;
      step_is = rw (parts.1, parts.2 1 (omega arith)) step_is;
      first_place = at';
      second_place = ap (λ p. p + step) at';
      first_channel = rw (at', parts.1) here;
      second_channel = rw (at', parts.2 step few) there;
    }
