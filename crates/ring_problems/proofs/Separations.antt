-- A separation is a problem.
use Rattle.std.proofs.Common.{◌≡◌, ℕ, ◌+◌, ◌*◌, ◌<◌, ◌≤◌, List, length, Option, Some, None, IfSome, map, option_map}
use Rattle.std.proofs.Common.{nat_lt, slice_index, refl, sym, ap, subst, inl, inr, ⊎_elim, arith, add-zero}
use Rattle.std.specs.Int.{abs_diff}
use Rattle.std.specs.List.{range_with_len}
use Rattle.std.proofs.lemmas.Bool.{ltb-true, lt-ltb}
use Rattle.std.proofs.lemmas.List.Elements.{All-get_or}
use Rattle.std.proofs.lemmas.Option.{slice_get_within}
use Rattle.win_index.specs.Ring.{IsRing}
use Rattle.win_index.specs.Arcs.{window_around}
use Rattle.win_index.specs.Windows.{number_of}
use Rattle.win_index.proofs.Windows.{number_of_some}
use Rattle.channel_tables.specs.Tables.{ChannelTable, IsTable, channel_of, windows_of}
use Rattle.channel_tables.specs.declared.separation.Separation.{Separation}
use Rattle.channel_tables.specs.Apart.{AreClose, IsApartEverywhere}
use Rattle.channel_tables.specs.Apart as apart
use Rattle.channel_tables.proofs.Tables.{AreTooClose, apart_not_too_close, apart_of_not_too_close, channel_around}
use Rattle.ring_problems.specs.declared.pattern.Pattern.{Pattern}
use Rattle.ring_problems.specs.Patterns.{Matches, IsForbidden}
use Rattle.ring_problems.specs.Problems.{Breaks}
use Rattle.ring_problems.specs.Separations.{next_to, two_from, close_to, close_pairs, separation_problem}
use Rattle.ring_problems.specs.Laws.{SeparationsAreProblems, NearIsProblem}
use Rattle.ring_problems.proofs.Members.{IsIn, in_of_get, get_of_in, in_append_left, in_append_right, append_in, in_map}
use Rattle.ring_problems.proofs.Members.{map_in, in_flat, flat_in, in_filter, filter_in, in_range}

-- the pattern of two close channels
in_close :
    (pattern : ℕ → ℕ → Pattern) (channels distance first second : ℕ) → first < channels → second < channels
    → abs_diff first second < distance
    → IsIn (pattern first second) (close_pairs pattern channels distance)
in_close pattern channels distance first second first_lt second_lt close =
    in_flat (λ first. map (pattern first) (close_to channels distance first)) (range_with_len 0 channels) first
    (pattern first second)
    (in_range channels first first_lt)
    (in_map (pattern first) (close_to channels distance first) second
    (in_filter (λ second. nat_lt (abs_diff first second) distance) (range_with_len 0 channels) second
    (lt-ltb (abs_diff first second) distance close) (in_range channels second second_lt)))

-- a pattern of the problem is that of two close channels
close_in :
    (pattern : ℕ → ℕ → Pattern) (channels distance : ℕ) (p : Pattern) → IsIn p (close_pairs pattern channels distance)
    → (first : ℕ) × (second : ℕ) × (pattern first second ≡ p) × (abs_diff first second < distance)
close_in pattern channels distance p h =
    let outer = flat_in (λ first. map (pattern first) (close_to channels distance first))
    (range_with_len 0 channels) p h in
    let inner = map_in (pattern outer.0) (close_to channels distance outer.0) p outer.2 in
    let kept = filter_in (λ second. nat_lt (abs_diff outer.0 second) distance)
    (range_with_len 0 channels) inner.0 inner.1 in
    (outer.0, inner.0, inner.2, ltb-true (abs_diff outer.0 inner.0) distance kept.1)

close_of : (distance first second : ℕ) (a b : Option ℕ) → a ≡ Some first → b ≡ Some second
    → abs_diff first second < distance → AreClose distance a b
close_of distance first second a b at_a at_b close = rw (at_a, at_b) close

-- channels that the problem forbids are too close
too_close_of_forbidden : (channels : ℕ) (s : Separation) (a b c : Option ℕ)
    → IsForbidden (separation_problem channels s) a b c → AreTooClose s a b c
too_close_of_forbidden channels s a b c bad =
    ⊎_elim
    (λ (near : IsIn bad.1 (close_pairs next_to channels s.near)).
    let own = close_in next_to channels s.near bad.1 near in
    let m : Matches (next_to own.0 own.1) a b c = subst (λ q. Matches q a b c) (sym own.2) bad.3 in
    inl (close_of s.near own.0 own.1 a b m.0 m.1 own.3))
    (λ (far : IsIn bad.1 (close_pairs two_from channels s.far)).
    let own = close_in two_from channels s.far bad.1 far in
    let m : Matches (two_from own.0 own.1) a b c = subst (λ q. Matches q a b c) (sym own.2) bad.3 in
    inr (close_of s.far own.0 own.1 a c m.0 m.2 own.3))
    (append_in (close_pairs next_to channels s.near) (close_pairs two_from channels s.far) bad.1
    (in_of_get (separation_problem channels s) bad.0 bad.1 bad.2))

-- channels below the number that are too close are forbidden
near_forbidden :
    (channels : ℕ) (s : Separation) (a b c : Option ℕ) → IfSome a (λ x. x < channels) → IfSome b (λ x. x < channels)
    → AreClose s.near a b
    → IsForbidden (separation_problem channels s) a b c
near_forbidden channels s (Some a) (Some b) c below_a below_b close =
    let place = get_of_in (separation_problem channels s) (next_to a b)
    (in_append_left (close_pairs next_to channels s.near) (close_pairs two_from channels s.far) (next_to a b)
    (in_close next_to channels s.near a b below_a below_b close)) in
    (place.0, next_to a b, place.1, (refl, refl, tt))
near_forbidden channels s (Some a) None c below_a below_b close = absurd close
near_forbidden channels s None b c below_a below_b close = absurd close

far_forbidden :
    (channels : ℕ) (s : Separation) (a b c : Option ℕ) → IfSome a (λ x. x < channels) → IfSome c (λ x. x < channels)
    → AreClose s.far a c
    → IsForbidden (separation_problem channels s) a b c
far_forbidden channels s (Some a) b (Some c) below_a below_c close =
    let place = get_of_in (separation_problem channels s) (two_from a c)
    (in_append_right (close_pairs next_to channels s.near) (close_pairs two_from channels s.far) (two_from a c)
    (in_close two_from channels s.far a c below_a below_c close)) in
    (place.0, two_from a c, place.1, (refl, tt, refl))
far_forbidden channels s (Some a) b None below_a below_c close = absurd close
far_forbidden channels s None b c below_a below_c close = absurd close

-- a table's channels are below their number
below_at : (t : ChannelTable) → IsTable t → (list : List ℕ) (o : Option ℕ) → number_of (2 * t.rounds + 1) t.ids list ≡ o
    → IfSome (option_map (slice_index t.entries) o) (λ c. c < t.channels)
below_at t is list None e = tt
below_at t is list (Some n) e =
    let within = slice_get_within (windows_of t) n list (number_of_some (2 * t.rounds + 1) t.ids n list e) in
    All-get_or (λ c. c < t.channels) t.entries n 0 (omega (arith, within, is.size)) is.begun.below

below_more : (less more : ℕ) (o : Option ℕ) → less ≤ more → IfSome o (λ c. c < less) → IfSome o (λ c. c < more)
below_more less more None le below = tt
below_more less more (Some c) le below = omega (arith, le, below)

pub channel_below : (t : ChannelTable) (channels : ℕ) (list : List ℕ) → IsTable t → t.channels ≤ channels
    → IfSome (channel_of t list) (λ c. c < channels)
channel_below t channels list is le =
    below_more t.channels channels (channel_of t list) le
    (below_at t is list (number_of (2 * t.rounds + 1) t.ids list) refl)

-- the channel at no steps from a place
here : (t : ChannelTable) (ring : List ℕ) (place : ℕ)
    → channel_of t (window_around ring t.rounds (place + 0)) ≡ channel_of t (window_around ring t.rounds place)
here t ring place = ap (λ k. channel_of t (window_around ring t.rounds k)) (add-zero place)

-- no ring of so many nodes or more breaks the problem of a separation
abbrev IsSolvedFrom : ℕ → ChannelTable → List Pattern → Type 0
IsSolvedFrom least t problem =
    (ring : List ℕ) (place : ℕ) → IsRing t.ids t.rounds ring → least ≤ length ring → place < length ring
    → ¬ Breaks t problem ring place

solved_of_apart : (t : ChannelTable) (s : Separation) (channels : ℕ) → IsTable t → t.channels ≤ channels
    → IsApartEverywhere t s → IsSolvedFrom (2 * t.rounds + 1 + apart.extra s) t (separation_problem channels s)
solved_of_apart t s channels is le good ring place on long within broken =
    let channel_at : ℕ → Option ℕ = λ k. channel_of t (window_around ring t.rounds k) in
    apart_not_too_close s _ _ _ (good ring place on long within)
    (too_close_of_forbidden channels s (channel_at place) (channel_at (place + 1)) (channel_at (place + 2))
    (subst (λ a. IsForbidden (separation_problem channels s) a (channel_at (place + 1)) (channel_at (place + 2))) (here t ring place) broken))

apart_of_solved : (t : ChannelTable) (s : Separation) (channels : ℕ) → IsTable t → t.channels ≤ channels
    → IsSolvedFrom (2 * t.rounds + 1 + apart.extra s) t (separation_problem channels s) → IsApartEverywhere t s
apart_of_solved t s channels is le good ring place on long within =
    let channel_at : ℕ → Option ℕ = λ k. channel_of t (window_around ring t.rounds k) in
    let below = λ (k : ℕ). channel_below t channels (window_around ring t.rounds k) is le in
    let along = subst (λ a. IsForbidden (separation_problem channels s) a (channel_at (place + 1)) (channel_at (place + 2))) (sym (here t ring place)) in
    apart_of_not_too_close s _ _ _ (channel_around t ring place on) (channel_around t ring (place + 1) on)
    (channel_around t ring (place + 2) on)
    (λ close. good ring place on long within (along
    (⊎_elim (near_forbidden channels s _ _ _ (below place) (below (place + 1))) (far_forbidden channels s _ _ _ (below place) (below (place + 2))) close)))

pub separation_is_problem : SeparationsAreProblems
separation_is_problem t s channels is le = (solved_of_apart t s channels is le, apart_of_solved t s channels is le)

-- with far 0 its tuples have 2t+2 identifiers, as many as a ring has at least
pub near_is_problem : NearIsProblem
near_is_problem t s channels is le zero_far = (
  λ good ring place on within. let long =
      on.long in solved_of_apart t s channels is le good ring place on (omega (arith, zero_far)) within,
  λ good. apart_of_solved t s channels is le (λ ring place on long within. good ring place on within),
)
