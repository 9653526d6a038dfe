-- Exchanges of problems with forbidden patterns.
use Rattle.std.proofs.Common.{◌≡◌, ◌==◌, ℕ, ◌+◌, ◌-◌, ◌*◌, ◌/◌, ◌%◌, ◌<◌, ◌≤◌, Bool, true, false, ◌&&◌, ltb, leb, List}
use Rattle.std.proofs.Common.{map, filter, length, take, drop, get_or, slice_get, Option, None, Some, option_map, refl}
use Rattle.std.proofs.Common.{sym, ap, ◌∙◌, subst, arith}
use Rattle.std.specs.List.{list_any}
use Rattle.std.proofs.lemmas.Bool.{ltb-true, leb-true, lt-ltb, eqb-true}
use Rattle.std.proofs.lemmas.List.{length-map, take-map, drop-map, get_or-map}
use Rattle.std.proofs.lemmas.List.Folds.{Any-from_list_any}
use Rattle.std.proofs.lemmas.List.Sums.{AllPass-from_list_all}
use Rattle.std.proofs.lemmas.Option.{none-some, same_Some, slice_get-get_or, slice_get_within, get_or_from_slice_get}
use Rattle.win_index.specs.Arcs.{part_at}
use Rattle.win_index.specs.Laws.{NumberOfWindow, WindowOfNumber, WindowsHaveNumbers, RingsHaveWindows, TuplesAreRings}
use Rattle.win_index.specs.Windows.{windows, number_of, IsWindow}
use Rattle.channel_tables.specs.Tables.{ChannelTable, IsTable, channel_of}
use Rattle.channel_tables.specs.declared.separation.Separation.{Separation}
use Rattle.channel_tables.specs.Apart.{IsApartEverywhere}
use Rattle.channel_tables.specs.Laws.{TuplesSuffice}
use Rattle.ring_problems.specs.declared.pattern.Entry.{Entry}
use Rattle.ring_problems.specs.declared.pattern.Entry.TheVariants.{Wildcard, Channel}
use Rattle.ring_problems.specs.declared.pattern.Pattern.{Pattern}
use Rattle.ring_problems.specs.Patterns.{extra, is_below, is_entry_below, Fits, IsForbidden, Matches}
use Rattle.ring_problems.specs.TupleLists.{IsTuple}
use Rattle.ring_problems.specs.Problems.{tuples, IsBad, IsSolvedEverywhere}
use Rattle.ring_problems.proofs.Problems.{tuple_window, extra_range, forbidden_along, filter_in, get_of_in, in_filter}
use Rattle.ring_problems.proofs.Problems.{in_of_get, suffice, tuple_at, none_bad, tuple_place}
use Rattle.node_program.specs.declared.limits.TheConstants.{MAX_CHANNELS}
use Rattle.table_formula.specs.declared.literal.Literal.{Literal}
use Rattle.table_formula.specs.declared.formula.exchange.Exchange.TheVariants.{Identifiers, Channels, Mirror}
use Rattle.table_formula.specs.Clauses.{is_same_value}
use Rattle.table_formula.specs.Formula.{values_of, variable_of, windows_of}
use Rattle.table_formula.specs.Problems.{Problem, IsSolution}
use Rattle.table_formula.specs.Exchanges.{entry_by, exchanged, is_same_entry, is_same_pattern, map_to_themselves}
use Rattle.table_formula.specs.Exchanges.{mirrored, pattern_by}
use Rattle.table_formula.specs.Laws.{ExchangesKeepSolutions}
use Rattle.table_formula.proofs.Exchanged.{and_true, exchange_no_closer, mirror_no_closer, mirror_same, part_stays}
use Rattle.table_formula.proofs.Exchanged.{same_after, stays_below, twice, window_stays, IsNoCloser}
use Rattle.table_formula.proofs.Exchanged as exchanges

same_entry : (d e : Entry) → is_same_entry d e ≡ true → d ≡ e
same_entry Wildcard Wildcard h = refl
same_entry (Channel c) (Channel d) h = ap Channel (eqb-true c d h)
same_entry Wildcard (Channel d) h = cc
same_entry (Channel c) Wildcard h = cc

same_pattern : (p q : Pattern) → is_same_pattern p q ≡ true → p ≡ q
same_pattern p q h =
    let first = and_true (is_same_entry p.first q.first) _ h in
    let second = and_true (is_same_entry p.second q.second) (is_same_entry p.third q.third) first.1 in
    let one = same_entry p.first q.first first.0 in
    let two = same_entry p.second q.second second.0 in
    let three = same_entry p.third q.third second.1 in
    λ i. record { first = one i; second = two i; third = three i }

both_true : (a b : Bool) → a ≡ true → b ≡ true → (a && b) ≡ true
both_true true b h k = k
both_true false b h k = h

-- a tuple stays one
tuple_stays : (a b m t : ℕ) (problem : List Pattern) (tuple : List ℕ) → a < m → b < m → IsTuple m t problem tuple
    → IsTuple m t problem (map (exchanged a b) tuple)
tuple_stays a b m t problem tuple a_below b_below is =
    let k : ℕ = 2 * t + 1 + 1 in
    record {
      size = length-map tuple (exchanged a b) ∙ is.size;
      front = subst (IsWindow k m) (sym (take-map (exchanged a b) k tuple))
          (window_stays a b k m (take k tuple) a_below b_below is.front);
      back =
          subst (IsWindow k m) (sym (drop-map (exchanged a b) (extra problem - 1) tuple))
          (window_stays a b k m (drop (extra problem - 1) tuple) a_below b_below is.back);
    }

-- a table whose channels are those of another one after an exchange of identifiers
module _ (t : ChannelTable) (channels : ℕ) (entries : List ℕ) (problem : List Pattern) (a b : ℕ) (a_below : a < t.ids)
    (b_below : b < t.ids) where
  abbrev other : ChannelTable
  other = record { ids = t.ids; rounds = t.rounds; channels = channels; entries = entries }

  module _ (channel_is : (list : List ℕ) → IsWindow (2 * t.rounds + 1) t.ids list
      → channel_of other list ≡ channel_of t (map (exchanged a b) list)) where
    ring_part : (step : ℕ) (tuple : List ℕ) → IsTuple t.ids t.rounds problem tuple → step ≤ extra problem
        → channel_of other (part_at t.rounds step tuple)
        ≡ channel_of t (part_at t.rounds step (map (exchanged a b) tuple))
    ring_part step tuple is le =
        channel_is (part_at t.rounds step tuple) (tuple_window t.ids t.rounds step problem tuple is le)
        ∙ ap (channel_of t) (part_stays a b t.rounds step tuple)

    bad_there : (tuple : List ℕ) → IsTuple t.ids t.rounds problem tuple → IsBad other problem tuple
        → IsBad t problem (map (exchanged a b) tuple)
    unfolding IsBad
    bad_there tuple is bad =
        let range = extra_range problem in
        forbidden_along problem _ _ _ _ _ _ (ring_part 0 tuple is (omega arith)) (ring_part 1 tuple is range.0)
        (ring_part 2 tuple is) bad

    solved_there : IsSolvedEverywhere t problem → IsSolvedEverywhere other problem
    solved_there good =
        (suffice other problem).0 (λ k d within bad.
        let tuple : List ℕ = get_or (tuples other problem) k d in
        let is = tuple_at other problem k tuple (slice_get-get_or (tuples other problem) k d within) in
        let there : List ℕ = map (exchanged a b) tuple in
        let placed = tuple_place t.ids t.rounds problem there
        (tuple_stays a b t.ids t.rounds problem tuple a_below b_below is) in
        none_bad t problem placed.0 there ((suffice t problem).1 good) placed.1 (bad_there tuple is bad))

-- channels that a function takes to others and back
module _ (f : ℕ → ℕ) (channels : ℕ) (back : (c : ℕ) → c < channels → f (f c) ≡ c) (stays : (c : ℕ) → c < channels
    → f c < channels) where
  -- an entry that fits the other channel
  fits_before : (e : Entry) (o : Option ℕ) → ((c : ℕ) → o ≡ Some c → c < channels) → Fits e (option_map f o)
      → (is_entry_below channels e ≡ true) × Fits (entry_by f e) o
  fits_before Wildcard o below fits = (refl, tt)
  fits_before (Channel d) None below fits = absurd (none-some d fits)
  fits_before (Channel d) (Some c) below fits =
      let lt : c < channels = below c refl in
      let is : f c ≡ d = same_Some (f c) d fits in
      (lt-ltb d channels (subst (λ x. x < channels) is (stays c lt)), ap Some (sym (back c lt) ∙ ap f is))

  module _ (problem : List Pattern) (themselves : map_to_themselves f (filter (is_below channels) problem) ≡ true) where
    abbrev possible : List Pattern
    possible = filter (is_below channels) problem

    -- a pattern that matches other channels has one that matches these
    forbidden_before : (a b c : Option ℕ) → ((x : ℕ) → a ≡ Some x → x < channels)
        → ((x : ℕ) → b ≡ Some x → x < channels)
        → ((x : ℕ) → c ≡ Some x → x < channels) → IsForbidden problem (option_map f a) (option_map f b) (option_map f c)
        → IsForbidden problem a b c
    forbidden_before a b c a_below b_below c_below bad =
        let pattern : Pattern = bad.1 in
        let first = fits_before pattern.first a a_below bad.3.0 in
        let second = fits_before pattern.second b b_below bad.3.1 in
        let third = fits_before pattern.third c c_below bad.3.2 in
        let below : is_below channels pattern ≡ true =
        both_true (is_entry_below channels pattern.first) _ first.0
        (both_true (is_entry_below channels pattern.second) (is_entry_below channels pattern.third) second.0 third.0) in
        let place = get_of_in possible pattern
        (in_filter (is_below channels) problem pattern below (in_of_get problem bad.0 pattern bad.2)) in
        let passes =
        AllPass-from_list_all (λ p. list_any (is_same_pattern (pattern_by f p)) possible) possible themselves place.0 pattern
        (slice_get_within possible place.0 pattern place.1) in
        let found : list_any (is_same_pattern (pattern_by f pattern)) possible ≡ true =
        subst (λ p. list_any (is_same_pattern (pattern_by f p)) possible ≡ true)
        (get_or_from_slice_get possible place.0 pattern pattern place.1) passes in
        let other = Any-from_list_any (is_same_pattern (pattern_by f pattern)) possible found in
        let same : pattern_by f pattern ≡ other.1 = same_pattern (pattern_by f pattern) other.1 other.4 in
        let item : slice_get possible other.0 ≡ Some other.1 =
        slice_get-get_or possible other.0 other.1 other.2 ∙ ap Some other.3 in
        let there = get_of_in problem other.1
        (filter_in (is_below channels) problem other.1 (in_of_get possible other.0 other.1 item)).0 in
        (there.0, other.1, there.1, subst (λ p. Matches p a b c) same (first.1, second.1, third.1))

    module _ (t : ChannelTable) (few : t.channels ≤ channels) (table : IsTable t) (item_of : WindowOfNumber) where
      abbrev mapped : ChannelTable
      mapped = record { ids = t.ids; rounds = t.rounds; channels = channels; entries = map f t.entries }

      channel_by : (list : List ℕ) (o : Option ℕ) → number_of (2 * t.rounds + 1) t.ids list ≡ o
          → (channel_of mapped list ≡ option_map f (channel_of t list))
          × ((c : ℕ) → channel_of t list ≡ Some c → c < channels)
      channel_by list None is = (
        ap (option_map (λ i. get_or mapped.entries i 0)) is
            ∙ sym (ap (λ o. option_map f (option_map (λ i. get_or t.entries i 0) o)) is),
        λ c e. absurd (none-some c (sym (ap (option_map (λ i. get_or t.entries i 0)) is) ∙ e)),
      )
      channel_by list (Some n) is =
          let lt : n < length t.entries =
          omega (arith, slice_get_within (windows (2 * t.rounds + 1) t.ids) n list (item_of (2 * t.rounds + 1) t.ids n list is), table.size) in (
            ap (option_map (λ i. get_or mapped.entries i 0)) is
                ∙ ap Some (get_or-map f t.entries n 0 0 lt)
                ∙ sym (ap (λ o. option_map f (option_map (λ i. get_or t.entries i 0) o)) is),
            λ c e.
                let own : get_or t.entries n 0 ≡ c =
                same_Some (get_or t.entries n 0) c (sym (ap (option_map (λ i. get_or t.entries i 0)) is) ∙ e) in
                omega (arith, own, table.begun.below n 0 lt, few),
          )

      solved_by : IsSolvedEverywhere t problem → IsSolvedEverywhere mapped problem
      unfolding IsBad
      solved_by good =
          (suffice mapped problem).0 (λ k d within bad.
          let tuple : List ℕ = get_or (tuples mapped problem) k d in
          let part : ℕ → List ℕ = λ step. part_at t.rounds step tuple in
          let own : (step : ℕ) → (channel_of mapped (part step) ≡ option_map f (channel_of t (part step)))
          × ((c : ℕ) → channel_of t (part step) ≡ Some c → c < channels) =
          λ step. channel_by (part step) (number_of (2 * t.rounds + 1) t.ids (part step)) refl in
          none_bad t problem k tuple ((suffice t problem).1 good) (slice_get-get_or (tuples t problem) k d within)
          (forbidden_before (channel_of t (part 0)) (channel_of t (part 1)) (channel_of t (part 2)) (own 0).1 (own 1).1 (own 2).1
          (forbidden_along problem _ _ _ _ _ _ (own 0).0 (own 1).0 (λ _. (own 2).0) bad)))

-- a problem with the shape of a table
abbrev shaped : ChannelTable → ℕ → Separation → List Pattern → Problem
shaped t channels s patterns =
    record { ids = t.ids; rounds = t.rounds; channels = channels; separation = s; forbidden = patterns }

same_shape : (p : Problem) (t : ChannelTable) → IsSolution p t → shaped t p.channels p.separation p.forbidden ≡ p
same_shape p t solution = λ i. record {
  ids = solution.ids i;
  rounds = solution.rounds i;
  channels = p.channels;
  separation = p.separation;
  forbidden = p.forbidden;
}

module _ (suffices : TuplesSuffice) (is_ring : TuplesAreRings) (has_window : RingsHaveWindows)
    (has_number : WindowsHaveNumbers)
    (number_at : NumberOfWindow) (item_of : WindowOfNumber) where
  abbrev Keeps : ChannelTable → Problem → Type 0
  Keeps = exchanges.Keeps suffices is_ring has_window has_number number_at item_of

  -- the table with other channels, by a function that keeps the separation and the patterns
  by_map :
      (t : ChannelTable) (channels : ℕ) (s : Separation) (patterns : List Pattern) → IsTable t → t.channels ≤ channels
      → IsApartEverywhere t s
      → IsSolvedEverywhere t patterns → channels ≤ MAX_CHANNELS → (f : ℕ → ℕ)
      → map_to_themselves f (filter (is_below channels) patterns) ≡ true
      → ((c : ℕ) → c < channels → f c < channels) → ((c : ℕ) → c < channels → f (f c) ≡ c)
      → ((c d : ℕ) → c < channels → d < channels → (f c == f d) ≡ (c == d)) → IsNoCloser f channels s.near
      → IsNoCloser f channels s.far
      → (u : ChannelTable) × IsSolution (shaped t channels s patterns) u
      × ((l : Literal) → l.variable < length (windows_of (shaped t channels s patterns)) * channels
      → is_same_value (values_of (shaped t channels s patterns) u (variable_of (shaped t channels s patterns) (l.variable / channels) (f (l.variable % channels)))) l.is_positive
      ≡ is_same_value (values_of (shaped t channels s patterns) t l.variable) l.is_positive)
  by_map t channels s patterns table few apart solved fits f themselves stays back same near far =
      let some : 0 < channels = omega (arith, table.begun.some_channels) in
      let other : ChannelTable =
      exchanges.v suffices is_ring has_window has_number number_at item_of t channels s f stays
      same near far in (
        exchanges.v suffices is_ring has_window has_number number_at item_of t channels s f stays same near far,
        record {
          table = exchanges.v_table suffices is_ring has_window has_number number_at item_of t channels s f stays same near far table few fits;
          ids = refl;
          rounds = refl;
          channels = omega arith;
          apart =
              (suffices other s).0
              (exchanges.v_apart suffices is_ring has_window has_number number_at item_of t channels s f stays same near far table few ((suffices t s).1 apart));
          solved = solved_by f channels back stays patterns themselves t few table item_of solved;
        },
        λ l lt. ap (λ x. is_same_value x l.is_positive)
            (exchanges.v_variable suffices is_ring has_window has_number number_at item_of t channels s f stays same near far table few some l.variable lt),
      )

  keeps : (t : ChannelTable) (channels : ℕ) (s : Separation) (patterns : List Pattern) → IsTable t
      → t.channels ≤ channels → IsApartEverywhere t s
      → IsSolvedEverywhere t patterns → Keeps t (shaped t channels s patterns)
  keeps t channels s patterns table few apart solved (Identifiers a b) can =
      let both = and_true (ltb a t.ids) (ltb b t.ids) can in
      let a_below : a < t.ids = ltb-true a t.ids both.0 in
      let b_below : b < t.ids = ltb-true b t.ids both.1 in
      let some : 0 < channels = omega (arith, table.begun.some_channels) in
      let other : ChannelTable =
      exchanges.u suffices is_ring has_window has_number number_at item_of t channels s a b a_below b_below in (
        exchanges.u suffices is_ring has_window has_number number_at item_of t channels s a b a_below b_below,
        record {
          table = exchanges.u_table suffices is_ring has_window has_number number_at item_of t channels s a b a_below b_below table;
          ids = refl;
          rounds = refl;
          channels = few;
          apart = (suffices other s).0
              (exchanges.u_apart suffices is_ring has_window has_number number_at item_of t channels s a b a_below
              b_below ((suffices t s).1 apart));
          solved =
              solved_there t t.channels other.entries patterns a b a_below b_below
              (exchanges.channel_is suffices is_ring has_window has_number number_at item_of t channels s a b a_below b_below) solved;
        },
        exchanges.literal_is suffices is_ring has_window has_number number_at item_of t channels s a b a_below b_below some,
      )
  keeps t channels s patterns table few apart solved (Channels a b) can =
      let first = and_true (ltb a channels) _ can in
      let second = and_true (ltb b channels) _ first.1 in
      let third = and_true (leb channels MAX_CHANNELS) _ second.1 in
      let fourth = and_true (leb s.near 1) _ third.1 in
      let fifth = and_true (leb s.far 1) _ fourth.1 in
      let a_below : a < channels = ltb-true a channels first.0 in
      let b_below : b < channels = ltb-true b channels second.0 in
      by_map t channels s patterns table few apart solved (leb-true channels MAX_CHANNELS third.0)
      (exchanged a b) fifth.1
      (λ c lt. stays_below a b channels c a_below b_below lt) (λ c _. twice a b c) (λ c d _ _. same_after a b c d)
      (exchange_no_closer a b channels s.near (leb-true s.near 1 fourth.0))
      (exchange_no_closer a b channels s.far (leb-true s.far 1 fifth.0))
  keeps t channels s patterns table few apart solved Mirror can =
      let both = and_true (leb channels MAX_CHANNELS) _ can in
      by_map t channels s patterns table few apart solved (leb-true channels MAX_CHANNELS both.0)
      (mirrored channels) both.1 (λ c lt. omega arith)
      (λ c lt. omega arith) (mirror_same channels) (mirror_no_closer channels s.near) (mirror_no_closer channels s.far)

  pub kept : ExchangesKeepSolutions
  kept p t x can solution =
      subst (Keeps t) (same_shape p t solution)
      (keeps t p.channels p.separation p.forbidden solution.table solution.channels solution.apart solution.solved) x can
