-- Solutions as colours.
use Rattle.std.proofs.Common.{◌≡◌, ◌≢◌, ◌==◌, ℕ, zero, suc, ◌+◌, ◌-◌, ◌*◌, ◌<◌, ◌≤◌, Bool, true, false, cond, List}
use Rattle.std.proofs.Common.{Option, Some, None, IsSome, IfSome, option_map, unwrap_or, length, take, slice_index}
use Rattle.std.proofs.Common.{refl, sym, ap, ◌∙◌, arith, add-zero}
use Rattle.std.proofs.lemmas.Bool.{false≢true, eqb-true, eq-eqb}
use Rattle.win_index.specs.Arcs.{arc, window_around, part_at}
use Rattle.win_index.specs.Ring.{IsRing}
use Rattle.std.proofs.lemmas.List.Elements.{All-get_or}
use Rattle.std.proofs.lemmas.Option.{slice_get_within}
use Rattle.win_index.specs.Windows.{number_of}
use Rattle.win_index.proofs.Windows.{take-arc, drop-arc, number_of_some}
use Rattle.channel_tables.specs.Tables.{ChannelTable, channel_of, windows_of}
use Rattle.channel_tables.proofs.Tables.{channel_around}
use Rattle.lower_bound.specs.Laws.{IsFull, WindowsNeedChannels}
use Rattle.ring_problems.specs.Patterns.{IsForbidden}
use Rattle.ring_problems.specs.Separations.{next_to}
use Rattle.ring_problems.specs.Known.{matching}
use Rattle.problem_bounds.specs.Laws.{IndependentSetsNeedRounds, MatchingsNeedRounds}

-- the channel of a window, or 0
abbrev channel_or : ChannelTable → List ℕ → ℕ
channel_or t window = unwrap_or (channel_of t window) 0

below_or : (o : Option ℕ) (n : ℕ) → 0 < n → IfSome o (λ x. x < n) → unwrap_or o 0 < n
below_or (Some x) n some below = below
below_or None n some below = some

-- the channels of a table are below their number
below_at : (t : ChannelTable) → IsFull t → (list : List ℕ) (o : Option ℕ) → number_of (2 * t.rounds + 1) t.ids list ≡ o
    → IfSome (option_map (slice_index t.entries) o) (λ c. c < t.channels)
below_at t is list None e = tt
below_at t is list (Some n) e =
    let within = slice_get_within (windows_of t) n list (number_of_some (2 * t.rounds + 1) t.ids n list e) in
    All-get_or (λ c. c < t.channels) t.entries n 0 (omega (arith, within, is.size)) is.below

below_more : (less more : ℕ) (o : Option ℕ) → less ≤ more → IfSome o (λ c. c < less) → IfSome o (λ c. c < more)
below_more less more None le below = tt
below_more less more (Some c) le below = omega (arith, le, below)

channel_below : (t : ChannelTable) (channels : ℕ) (list : List ℕ) → IsFull t → t.channels ≤ channels
    → IfSome (channel_of t list) (λ c. c < channels)
channel_below t channels list is le =
    below_more t.channels channels (channel_of t list) le
    (below_at t is list (number_of (2 * t.rounds + 1) t.ids list) refl)

-- a channel that there is
is_value : (o : Option ℕ) → IsSome o → o ≡ Some (unwrap_or o 0)
is_value (Some x) some = refl
is_value None some = absurd (false≢true some)

-- two equal channels of neighbours are forbidden in matchings
same_forbidden : (x : ℕ) (a b c : Option ℕ) → x < 3 → a ≡ Some x → b ≡ Some x → IsForbidden matching a b c
same_forbidden zero a b c lt at_a at_b = (0, next_to 0 0, refl, (at_a, at_b, tt))
same_forbidden (suc zero) a b c lt at_a at_b = (2, next_to 1 1, refl, (at_a, at_b, tt))
same_forbidden (suc (suc zero)) a b c lt at_a at_b = (4, next_to 2 2, refl, (at_a, at_b, tt))
same_forbidden (suc (suc (suc x))) a b c lt at_a at_b = absurd (omega arith)

pub matchings : WindowsNeedChannels → MatchingsNeedRounds
matchings need t is few good =
    need t.ids t.rounds 3 (channel_or t)
    (λ window own. below_or (channel_of t window) 3 (omega arith) (channel_below t 3 window is few))
    (λ ring place on within same.
    let at' : ℕ → Option ℕ = λ k. channel_of t (window_around ring t.rounds k) in
    let here = is_value (at' (place + 0)) (channel_around t ring (place + 0) on) in
    let there = is_value (at' (place + 1)) (channel_around t ring (place + 1) on) in
    let equal : unwrap_or (at' (place + 1)) 0 ≡ unwrap_or (at' (place + 0)) 0 =
    sym same ∙ ap (λ k. unwrap_or (at' k) 0) (sym (add-zero place)) in
    good ring place on within
    (same_forbidden (unwrap_or (at' (place + 0)) 0) (at' (place + 0)) (at' (place + 1)) (at' (place + 2))
    (below_or (at' (place + 0)) 3 (omega arith) (channel_below t 3 (window_around ring t.rounds (place + 0)) is few))
    here (there ∙ ap Some equal)))

-- whether a place is in the set
abbrev is_in : Option ℕ → Bool
is_in o = unwrap_or o 0 == 1

-- the colour of a place, by its channel and that of its right neighbour: 0 in the set, 1 to the left of a place in
-- the set, 2 else
abbrev chosen : Bool → Bool → ℕ
chosen p q = cond p 0 (cond q 1 2)

abbrev colour : Option ℕ → Option ℕ → ℕ
colour a b = chosen (is_in a) (is_in b)

colour_below : (p q : Bool) → chosen p q < 3
colour_below true q = omega arith
colour_below false true = omega arith
colour_below false false = omega arith

differ : (p q s : Bool) → (p ≡ true → q ≡ true → ⊥) → (p ≡ false → q ≡ false → s ≡ false → ⊥) → chosen p q ≢ chosen q s
differ true true s two three e = two refl refl
differ true false true two three e = omega arith
differ true false false two three e = omega arith
differ false true s two three e = omega arith
differ false false true two three e = omega arith
differ false false false two three e = three refl refl refl

in_is : (o : Option ℕ) → IsSome o → is_in o ≡ true → o ≡ Some 1
in_is o some e = is_value o some ∙ ap Some (eqb-true (unwrap_or o 0) 1 e)

out_is : (o : Option ℕ) → IsSome o → IfSome o (λ x. x < 2) → is_in o ≡ false → o ≡ Some 0
out_is o some below e =
    let other : ¬ (unwrap_or o 0 ≡ 1) = λ one. false≢true (sym e ∙ eq-eqb (unwrap_or o 0) 1 one) in
    let few = below_or o 2 (omega arith) below in
    let none : unwrap_or o 0 ≡ 0 = omega arith in
    is_value o some ∙ ap Some none

-- the windows of a place and of its right neighbour, in the window of one more round
part_of_wider : (ring : List ℕ) (r place s : ℕ) → s ≤ 1 → r + 1 ≤ length ring
    → part_at r (1 + s) (window_around ring (r + 1) place) ≡ window_around ring r (place + s)
part_of_wider ring r place s le long =
    let n : ℕ = length ring in
    let start : ℕ = place + n - (r + 1) in
    let count : ℕ = 2 * (r + 1) + 1 in
    let at' : start + (1 + s) ≡ place + s + n - r = omega arith in
    ap (take (2 * r + 1)) (drop-arc ring start count (1 + s) (omega arith))
    ∙ take-arc ring (start + (1 + s)) (count - (1 + s)) (2 * r + 1) (omega arith)
    ∙ ap (λ i. arc ring i (2 * r + 1)) at'

-- the colour of a window of one more round
abbrev colour_of : ChannelTable → List ℕ → ℕ
colour_of t window = colour (channel_of t (part_at t.rounds (1 + 0) window))
    (channel_of t (part_at t.rounds (1 + 1) window))

shorter : (m t : ℕ) (ring : List ℕ) → IsRing m (t + 1) ring → IsRing m t ring
shorter m t ring is = let long = is.long in record { long = omega arith; short = is.short; below = is.below; distinct = is.distinct }

pub independent_sets : WindowsNeedChannels → IndependentSetsNeedRounds
independent_sets need t is few good =
    need t.ids (t.rounds + 1) 3 (colour_of t)
    (λ window own. colour_below (is_in (channel_of t (part_at t.rounds (1 + 0) window))) (is_in (channel_of t (part_at t.rounds (1 + 1) window))))
    (λ ring place wide within same.
    let r = t.rounds in
    let long = wide.long in
    let on = shorter t.ids r ring wide in
    let at' : ℕ → Option ℕ = λ k. channel_of t (window_around ring r k) in
    let some : (k : ℕ) → IsSome (at' k) = λ k. channel_around t ring k on in
    let below : (k : ℕ) → IfSome (at' k) (λ x. x < 2) = λ k. channel_below t 2 (window_around ring r k) is few in
    let wider : (k s : ℕ) → s ≤ 1
    → channel_of t (part_at r (1 + s) (window_around ring (r + 1) k)) ≡ at' (k + s) = λ k s le.
    ap (channel_of t) (part_of_wider ring r k s le (omega arith)) in
    let here : colour_of t (window_around ring (r + 1) place) ≡ colour (at' (place + 0)) (at' (place + 1)) = λ i.
    colour (wider place 0 (omega arith) i) (wider place 1 (omega arith) i) in
    let next : place + 1 + 0 ≡ place + 1 = omega arith in
    let after : place + 1 + 1 ≡ place + 2 = omega arith in
    let there : colour_of t (window_around ring (r + 1) (place + 1)) ≡ colour (at' (place + 1)) (at' (place + 2)) =
    (λ i. colour (wider (place + 1) 0 (omega arith) i) (wider (place + 1) 1 (omega arith) i))
    ∙ (λ i. colour (at' (next i)) (at' (after i))) in
    let not_bad = good ring place on within in
    differ (is_in (at' (place + 0))) (is_in (at' (place + 1))) (is_in (at' (place + 2)))
    (λ p q. not_bad (1, next_to 1 1, refl, (in_is (at' (place + 0)) (some (place + 0)) p, in_is (at' (place + 1)) (some (place + 1)) q, tt)))
    (λ p q s. not_bad (
      0,
      _,
      refl,
      (
        out_is (at' (place + 0)) (some (place + 0)) (below (place + 0)) p,
        out_is (at' (place + 1)) (some (place + 1)) (below (place + 1)) q,
        out_is (at' (place + 2)) (some (place + 2)) (below (place + 2)) s,
      ),
    ))
    (sym here ∙ same ∙ there))
