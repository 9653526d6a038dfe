-- The table for fewer identifiers and more rounds that a table gives: a node need not use all that it sees.
use Rattle.std.proofs.Common.{◌≡◌, ℕ, zero, suc, ◌+◌, ◌-◌, ◌*◌, ◌%◌, ◌<◌, ◌≤◌, Option, Some, None, IsSome, unwrap_or}
use Rattle.std.proofs.Common.{option_map, List, [], map, length, get_or, take, drop, All, slice_index, refl, sym, ap}
use Rattle.std.proofs.Common.{◌∙◌, subst, arith, inl, inr, length-take-le, length-drop, get_or-take}
use Rattle.std.proofs.Common.{get_or-drop, mul-le-mul}
use Rattle.std.specs.Prelude.{◌⊎◌}
use Rattle.std.proofs.lemmas.Bool.{cases_lt}
use Rattle.std.proofs.lemmas.List.{length-map, get_or-map, get_or_past, ext_get_or}
use Rattle.std.proofs.lemmas.List.Elements.{All-map, All-weaker}
use Rattle.std.proofs.lemmas.Option.{slice_get_within, get_or_from_slice_get}
use Rattle.node_program.specs.declared.limits.TheConstants.{MAX_ROUNDS}
use Rattle.win_index.specs.Arcs.{window_around, part_at}
use Rattle.win_index.specs.Falling.{falling}
use Rattle.win_index.specs.Laws.{NumberOfWindow, WindowOfNumber, WindowsHaveNumbers, RingsHaveWindows, CountOfWindows}
use Rattle.win_index.specs.Laws.{LengthOfArcs, ItemsOfArcs}
use Rattle.win_index.specs.Ring.{IsRing}
use Rattle.win_index.specs.ShapeRange.{IsShape}
use Rattle.win_index.specs.Windows.{windows, number_of}
use Rattle.channel_tables.specs.Tables.{ChannelTable, IsTable, channel_of}
use Rattle.channel_tables.specs.declared.separation.Separation.{Separation}
use Rattle.channel_tables.specs.Apart.{AreApart, IsApartEverywhere}
use Rattle.ring_problems.specs.declared.pattern.Pattern.{Pattern}
use Rattle.ring_problems.specs.Patterns.{Fits}
use Rattle.ring_problems.specs.Problems.{IsSolvedEverywhere}

-- the channel of a table at a list, 0 if it is no window
abbrev channel_or_0 : ChannelTable → List ℕ → ℕ
channel_or_0 t list = unwrap_or (channel_of t list) 0

-- the channel at what the middle of a longer window sees
abbrev middle_channel : ChannelTable → ℕ → List ℕ → ℕ
middle_channel t rounds window = channel_or_0 t (part_at t.rounds (rounds - t.rounds) window)

-- the table for m identifiers and so many rounds, with the channels at the middles of its windows
abbrev pub seen_table : ChannelTable → ℕ → ℕ → ChannelTable
seen_table t m rounds =
    record t { ids = m; rounds = rounds; entries = map (middle_channel t rounds) (windows (2 * rounds + 1) m) }

some_number : (o : Option ℕ) → IsSome o → o ≡ Some (unwrap_or o 0)
some_number None h = cc
some_number (Some n) h = refl

some_channel : (f : ℕ → ℕ) (o : Option ℕ) → IsSome o → IsSome (option_map f o)
some_channel f None h = cc
some_channel f (Some n) h = refl

-- two channels that there are differ by 0 or more
apart_by_none : (a b : Option ℕ) → IsSome a → IsSome b → AreApart 0 a b
apart_by_none (Some c) (Some d) here there = omega arith
apart_by_none (Some c) None here there = cc
apart_by_none None b here there = cc

-- a ring is one for more identifiers and fewer rounds
ring_more : (m n few rounds : ℕ) (ring : List ℕ) → m ≤ n → few ≤ rounds → IsRing m rounds ring → IsRing n few ring
ring_more m n few rounds ring le fewer is =
    let long = is.long in
    let short = is.short in
    record {
      long = omega arith;
      short = omega arith;
      below = All-weaker (λ (id : ℕ). id < m) (λ (id : ℕ). id < n) (λ id less. omega arith) ring is.below;
      distinct = is.distinct;
    }

-- an entry of a list, or 0 past its end, is below a bound of the entries
entry_below : (xs : List ℕ) (n c : ℕ) → All (λ x. x < c) xs → 0 < c →
    (n < length xs) ⊎ (length xs ≤ n) → slice_index xs n < c
entry_below xs n c all some (inl within) = all n 0 within
entry_below xs n c all some (inr past) = let e = get_or_past xs n 0 past in omega (arith, e)

channel_below : (t : ChannelTable) (o : Option ℕ) → IsTable t →
    unwrap_or (option_map (slice_index t.entries) o) 0 < t.channels
channel_below t None is = let some = is.begun.some_channels in omega arith
channel_below t (Some n) is =
    let some = is.begun.some_channels in
    entry_below t.entries n t.channels is.begun.below (omega arith) (cases_lt n (length t.entries))

-- a product of more factors, none of which is 0, is not smaller, and one of greater factors is not either
falling_longer : (m j k : ℕ) → j + k ≤ m → falling m j ≤ falling m (j + k)
falling_longer m j zero le = let e : j + 0 ≡ j = omega arith in omega (arith, ap (falling m) e)
falling_longer m j (suc k) le =
    let e : j + suc k ≡ suc (j + k) = omega arith in
    let less = falling_longer m j k (omega arith) in
    let one : 1 ≤ m - (j + k) = omega arith in
    let more = mul-le-mul less one in
    omega (arith, ap (falling m) e, more)

falling_greater : (m n k : ℕ) → m ≤ n → falling m k ≤ falling n k
falling_greater m n zero le = omega arith
falling_greater m n (suc k) le =
    let one : m - k ≤ n - k = omega arith in
    mul-le-mul (falling_greater m n k le) one

many_windows : falling 12 11 ≡ 479001600
many_windows = refl

module _ (count : CountOfWindows) where
  -- a shape has few rounds: for five there are too many windows
  few_rounds : (m rounds : ℕ) → IsShape m rounds → (MAX_ROUNDS < rounds) ⊎ (rounds ≤ MAX_ROUNDS) → rounds ≤ MAX_ROUNDS
  few_rounds m rounds shape (inr few) = few
  few_rounds m rounds shape (inl many) =
      let enough = shape.ids.enough in
      let few = shape.few_windows in
      let e : 11 + (2 * rounds + 1 - 11) ≡ 2 * rounds + 1 = omega arith in
      let longer = falling_longer m 11 (2 * rounds + 1 - 11) (omega arith) in
      let greater = falling_greater 12 m 11 (omega arith) in
      absurd (omega (arith, few, count (2 * rounds + 1) m, ap (falling m) e, longer, greater, many_windows))

  pub seen_is_table : (t : ChannelTable) (m rounds : ℕ) → IsTable t → IsShape m rounds → IsTable (seen_table t m rounds)
  seen_is_table t m rounds is shape =
      let ws = windows (2 * rounds + 1) m in
      let size = length-map ws (middle_channel t rounds) in
      record {
        begun = record {
          few_rounds = few_rounds m rounds shape (cases_lt MAX_ROUNDS rounds);
          shape = shape;
          some_channels = is.begun.some_channels;
          few_channels = is.begun.few_channels;
          size = omega (arith, size);
          below =
              All-map (λ (c : ℕ). c < t.channels) (middle_channel t rounds) ws
              (λ k d within. channel_below t
              (number_of (2 * t.rounds + 1) t.ids (part_at t.rounds (rounds - t.rounds) (get_or ws k d))) is);
        };
        size = size;
      }

-- the middle of a window at a place is the shorter window there
module _ (len : LengthOfArcs) (item : ItemsOfArcs) where
  middle_is : (ring : List ℕ) (place few rounds : ℕ) → few ≤ rounds → rounds ≤ place + length ring
      → part_at few (rounds - few) (window_around ring rounds place) ≡ window_around ring few place
  middle_is ring place few rounds fewer long =
      let n = length ring in
      let d = rounds - few in
      let k = 2 * few + 1 in
      let whole = window_around ring rounds place in
      let size = len ring (place + n - rounds) (2 * rounds + 1) in
      let left : length (drop d whole) ≡ rounds + few + 1 = omega (arith, length-drop d whole, size) in
      let front : length (take k (drop d whole)) ≡ k = length-take-le k (drop d whole) (omega (arith, left)) in
      ext_get_or 0 (take k (drop d whole)) (window_around ring few place) (front ∙ sym (len ring (place + n - few) k))
      (λ j within.
      let lt : j < k = omega (arith, within, front) in
      let e : place + n - rounds + (d + j) ≡ place + n - few + j = omega arith in
      get_or-take k (drop d whole) j 0 lt ∙ get_or-drop d whole j 0
      ∙ item ring (place + n - rounds) (2 * rounds + 1) (d + j) 0 (omega arith)
      ∙ ap (λ (p : ℕ). slice_index ring (p % n)) e ∙ sym (item ring (place + n - few) k j 0 lt))

  module _ (number : NumberOfWindow) (at_number : WindowOfNumber) (have : WindowsHaveNumbers)
      (rings : RingsHaveWindows) where
    -- at each place of a ring the table has the same channel
    same_channel : (t : ChannelTable) (m rounds place : ℕ) (ring : List ℕ) → m ≤ t.ids
        → t.rounds ≤ rounds → IsRing m rounds ring
        → channel_of (seen_table t m rounds) (window_around ring rounds place)
        ≡ channel_of t (window_around ring t.rounds place)
    same_channel t m rounds place ring le fewer is =
        let k = 2 * rounds + 1 in
        let ws = windows k m in
        let window = window_around ring rounds place in
        let here = window_around ring t.rounds place in
        let long = is.long in
        let n = unwrap_or (number_of k m window) 0 in
        let numbered = some_number (number_of k m window)
        ((have k m window).1 (rings m rounds rounds place ring is (omega arith))) in
        let at = at_number k m n window numbered in
        let within = slice_get_within ws n window at in
        let entry : slice_index (map (middle_channel t rounds) ws) n ≡ channel_or_0 t here =
        get_or-map (middle_channel t rounds) ws n [] 0 within
        ∙ ap (middle_channel t rounds) (get_or_from_slice_get ws n window [] at)
        ∙ ap (channel_or_0 t) (middle_is ring place t.rounds rounds fewer (omega arith)) in
        let own_window = rings t.ids t.rounds t.rounds place ring
        (ring_more m t.ids t.rounds rounds ring le fewer is) (omega arith) in
        let own = some_channel (slice_index t.entries) (number_of (2 * t.rounds + 1) t.ids here)
        ((have (2 * t.rounds + 1) t.ids here).1 own_window) in
        ap (option_map (slice_index (map (middle_channel t rounds) ws))) numbered ∙ ap (λ (c : ℕ). Some c) entry
        ∙ sym (some_number (channel_of t here) own)

    two_apart : (distance : ℕ) (a b c d : Option ℕ) → a ≡ c → b ≡ d → AreApart distance c d → AreApart distance a b
    two_apart distance a b c d e f h = subst (λ (x : Option ℕ). AreApart distance x b) (sym e)
        (subst (λ (x : Option ℕ). AreApart distance c x) (sym f) h)

    -- so it keeps each separation that the table keeps
    pub seen_is_apart : (t : ChannelTable) (m rounds : ℕ) (s : Separation) → m ≤ t.ids → t.rounds ≤ rounds
        → IsApartEverywhere t s
        → IsApartEverywhere (seen_table t m rounds) s
    seen_is_apart t m rounds s le fewer apart ring place is long within =
        let same : (i : ℕ) → channel_of (seen_table t m rounds) (window_around ring rounds i)
        ≡ channel_of t (window_around ring t.rounds i) =
        λ i. same_channel t m rounds i ring le fewer is in
        let both = apart ring place (ring_more m t.ids t.rounds rounds ring le fewer is) (omega arith) within in (
          two_apart s.near _ _ _ _ (same place) (same (place + 1)) both.0,
          two_apart s.far _ _ _ _ (same place) (same (place + 2)) both.1,
        )

    -- and it solves each problem that the table solves
    pub seen_solves : (t : ChannelTable) (m rounds : ℕ) (problem : List Pattern) → m ≤ t.ids → t.rounds ≤ rounds
        → IsSolvedEverywhere t problem → IsSolvedEverywhere (seen_table t m rounds) problem
    seen_solves t m rounds problem le fewer solved ring place is within bad =
        let same : (i : ℕ) → channel_of (seen_table t m rounds) (window_around ring rounds i)
        ≡ channel_of t (window_around ring t.rounds i) =
        λ i. same_channel t m rounds i ring le fewer is in
        solved ring place (ring_more m t.ids t.rounds rounds ring le fewer is) within (
          bad.0,
          bad.1,
          bad.2,
          (
            subst (Fits bad.1.first) (same (place + 0)) bad.3.0,
            subst (Fits bad.1.second) (same (place + 1)) bad.3.1,
            subst (Fits bad.1.third) (same (place + 2)) bad.3.2,
          ),
        )

    -- and no channels are closer than 0
    pub seen_is_free : (t : ChannelTable) (m rounds : ℕ) → m ≤ t.ids → t.rounds ≤ rounds
        → IsApartEverywhere (seen_table t m rounds) (record { near = 0; far = 0 })
    seen_is_free t m rounds le fewer ring place is long within =
        let here : (i : ℕ) → IsSome (channel_of (seen_table t m rounds) (window_around ring rounds i)) =
        λ i. some_channel (slice_index (seen_table t m rounds).entries)
        (number_of (2 * rounds + 1) m (window_around ring rounds i))
        ((have (2 * rounds + 1) m (window_around ring rounds i)).1 (rings m rounds rounds i ring is (omega (arith, is.long)))) in
        (apart_by_none _ _ (here place) (here (place + 1)), apart_by_none _ _ (here place) (here (place + 2)))
