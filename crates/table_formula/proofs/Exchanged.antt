-- Tables with two identifiers or two channels exchanged.
use Rattle.std.proofs.Common.{◌≡◌, ◌==◌, ℕ, ◌+◌, ◌*◌, ◌/◌, ◌%◌, ◌<◌, ◌≤◌, Bool, true, false, ◌&&◌, cond, List, [], ◌∷◌}
use Rattle.std.proofs.Common.{map, length, take, drop, get_or, slice_get, Option, Some, IsSome, option_map, unwrap_or}
use Rattle.std.proofs.Common.{refl, sym, ap, ◌∙◌, subst, ⊎_elim, inl, inr, arith, zero-add}
use Rattle.std.specs.List.{range_with_len}
use Rattle.std.proofs.lemmas.Bool.{eq-eqb}
use Rattle.std.proofs.lemmas.Bool.Decides.{eqb_tells, nat_tests}
use Rattle.std.specs.Int.{abs_diff}
use Rattle.std.proofs.lemmas.List.{length-map, take-map, drop-map, get_or-map}
use Rattle.std.proofs.lemmas.List.FromFn.{get_or-map-range_with_len, length-map-range_with_len}
use Rattle.std.proofs.lemmas.List.Elements.{All-map, All-weaker}
use Rattle.std.proofs.lemmas.Nat.{div_below, mod_below}
use Rattle.std.proofs.lemmas.Option.{slice_get-get_or, slice_get_within, get_or_from_slice_get}
use Rattle.win_index.specs.Arcs.{part_at}
use Rattle.win_index.specs.Laws.{NumberOfWindow, WindowOfNumber, WindowsHaveNumbers, RingsHaveWindows, TuplesAreRings}
use Rattle.win_index.specs.Windows.{windows, number_of, IsWindow}
use Rattle.channel_tables.specs.Tables.{ChannelTable, IsTable, channel_of}
use Rattle.channel_tables.specs.declared.separation.Separation.{Separation}
use Rattle.channel_tables.specs.Apart.{extra, AreClose, IsBad, IsApart}
use Rattle.channel_tables.specs.Laws.{TuplesSuffice}
use Rattle.table_formula.specs.Clauses.{is_same_value, is_true_literal}
use Rattle.table_formula.specs.declared.literal.Literal.{Literal}
use Rattle.node_program.specs.declared.limits.TheConstants.{MAX_CHANNELS}
use Rattle.table_formula.specs.declared.formula.exchange.Exchange.{Exchange}
use Rattle.table_formula.specs.declared.formula.exchange.Exchange.TheVariants.{Identifiers}
use Rattle.table_formula.specs.Problems.{Problem, IsSolution}
use Rattle.table_formula.specs.Formula.{windows_of, variable_of, variable_count, values_of}
use Rattle.table_formula.specs.Exchanges.{can_exchange, exchanged, mirrored, exchanged_window, exchanged_literal}
use Rattle.table_formula.proofs.ClauseLists.{all_below, some_value}
use Rattle.table_formula.proofs.Satisfied.{problem_of, value_at}
use Rattle.table_formula.proofs.Models.{two_of_far}

pub and_true : (a b : Bool) → (a && b) ≡ true → (a ≡ true) × (b ≡ true)
and_true true b h = (refl, h)
and_true false b h = cc

-- two numbers, each for the other
module _ (a b : ℕ) where
  at_first : (x : ℕ) → x ≡ a → exchanged a b x ≡ b
  at_first x e = ap (λ q. cond q b (cond (x == b) a x)) (eq-eqb x a e)

  not_first : (x : ℕ) → (x == a) ≡ false → exchanged a b x ≡ cond (x == b) a x
  not_first x e = ap (λ q. cond q b (cond (x == b) a x)) e

  at_second : (x : ℕ) → x ≡ b → exchanged a b x ≡ a
  at_second x e =
      ⊎_elim
      (λ (h : ((x == a) ≡ true) × (x ≡ a)). at_first x h.1 ∙ sym e ∙ h.1)
      (λ (h : ((x == a) ≡ false) × (x ≡ a → ⊥)). not_first x h.0 ∙ ap (λ q. cond q a x) (eq-eqb x b e))
      (eqb_tells x a)

  at_other : (x : ℕ) → (x == a) ≡ false → (x == b) ≡ false → exchanged a b x ≡ x
  at_other x e f = not_first x e ∙ ap (λ q. cond q a x) f

  -- a number is one of the two, or stays
  module _ (P : ℕ → Type 0) (x : ℕ) (first : x ≡ a → P b) (second : x ≡ b
      → P a) (other : exchanged a b x ≡ x → P x) where
    each : P (exchanged a b x)
    each =
        ⊎_elim
        (λ (h : ((x == a) ≡ true) × (x ≡ a)). subst P (sym (at_first x h.1)) (first h.1))
        (λ (h : ((x == a) ≡ false) × (x ≡ a → ⊥)).
        ⊎_elim
        (λ (k : ((x == b) ≡ true) × (x ≡ b)). subst P (sym (at_second x k.1)) (second k.1))
        (λ (k : ((x == b) ≡ false) × (x ≡ b → ⊥)).
        let stays = at_other x h.0 k.0 in subst P (sym stays) (other stays))
        (eqb_tells x b))
        (eqb_tells x a)

  pub twice : (x : ℕ) → exchanged a b (exchanged a b x) ≡ x
  twice x =
      each (λ y. exchanged a b y ≡ x) x (λ e. at_second b refl ∙ sym e) (λ e. at_first a refl ∙ sym e) (λ stays. stays)

  pub stays_below : (m x : ℕ) → a < m → b < m → x < m → exchanged a b x < m
  stays_below m x a_below b_below lt = each (λ y. y < m) x (λ _. b_below) (λ _. a_below) (λ _. lt)

  injective : (x y : ℕ) → exchanged a b x ≡ exchanged a b y → x ≡ y
  injective x y e = sym (twice x) ∙ ap (exchanged a b) e ∙ twice y

  -- numbers are the same after an exchange exactly if they were before
  pub same_after : (x y : ℕ) → (exchanged a b x == exchanged a b y) ≡ (x == y)
  same_after x y =
      ⊎_elim
      (λ (h : ((x == y) ≡ true) × (x ≡ y)). eq-eqb (exchanged a b x) (exchanged a b y) (ap (exchanged a b) h.1)
      ∙ sym h.0)
      (λ (h : ((x == y) ≡ false) × (x ≡ y → ⊥)).
      ⊎_elim
      (λ (k : ((exchanged a b x == exchanged a b y) ≡ true) × (exchanged a b x ≡ exchanged a b y)). absurd (h.1 (injective x y k.1)))
      (λ (k : ((exchanged a b x == exchanged a b y) ≡ false) × (exchanged a b x ≡ exchanged a b y → ⊥)). k.0 ∙ sym h.0)
      (eqb_tells (exchanged a b x) (exchanged a b y)))
      (eqb_tells x y)

  list_twice : (xs : List ℕ) → map (exchanged a b) (map (exchanged a b) xs) ≡ xs
  list_twice [] = refl
  list_twice (x ∷ xs) = λ i. twice x i ∷ list_twice xs i

  -- a window stays one
  pub window_stays : (k m : ℕ) (xs : List ℕ) → a < m → b < m → IsWindow k m xs → IsWindow k m (map (exchanged a b) xs)
  window_stays k m xs a_below b_below window = record {
    size = length-map xs (exchanged a b) ∙ window.size;
    below =
        All-map (λ x. x < m) (exchanged a b) xs
        (All-weaker (λ x. x < m) (λ x. exchanged a b x < m) (λ x lt. stays_below m x a_below b_below lt) xs window.below);
    distinct = λ i j d lt within same.
        let short : j < length xs = omega (arith, within, length-map xs (exchanged a b)) in
        window.distinct i j d lt short
        (injective (get_or xs i d) (get_or xs j d)
        (sym (get_or-map (exchanged a b) xs i d d (omega arith)) ∙ same ∙ get_or-map (exchanged a b) xs j d d short));
  }

  -- a part of a longer list
  pub part_stays : (r step : ℕ) (xs : List ℕ)
      → map (exchanged a b) (part_at r step xs) ≡ part_at r step (map (exchanged a b) xs)
  part_stays r step xs =
      sym (take-map (exchanged a b) (2 * r + 1) (drop step xs))
      ∙ ap (take (2 * r + 1)) (sym (drop-map (exchanged a b) step xs))

-- channels below a number that a function brings closer than a distance are so close before
abbrev pub IsNoCloser : (ℕ → ℕ) → ℕ → ℕ → Type 0
IsNoCloser f channels distance =
    (c d : ℕ) → c < channels → d < channels → abs_diff (f c) (f d) < distance → abs_diff c d < distance

-- an exchange keeps which channels differ
pub exchange_no_closer : (a b channels distance : ℕ) → distance ≤ 1 → IsNoCloser (exchanged a b) channels distance
exchange_no_closer a b channels distance one c d c_below d_below close =
    let there : exchanged a b c ≡ exchanged a b d = omega (arith, one, close) in
    let here : c ≡ d = injective a b c d there in
    omega (arith, here, close)

-- the mirror keeps all distances
pub mirror_no_closer : (channels distance : ℕ) → IsNoCloser (mirrored channels) channels distance
mirror_no_closer channels distance c d c_below d_below close = omega arith

pub mirror_same : (channels c d : ℕ) → c < channels → d < channels
    → (mirrored channels c == mirrored channels d) ≡ (c == d)
mirror_same channels c d c_below d_below = grind (arith, nat_tests)

module _ (suffice : TuplesSuffice) (is_ring : TuplesAreRings) (has_window : RingsHaveWindows)
    (has_number : WindowsHaveNumbers)
    (number_at : NumberOfWindow) (item_of : WindowOfNumber) where
  -- the number of a window
  numbered : (k m : ℕ) (list : List ℕ) → IsWindow k m list
      → number_of k m list ≡ Some (unwrap_or (number_of k m list) 0)
  numbered k m list window = some_value (number_of k m list) ((has_number k m list).1 window)

  item : (k m : ℕ) (list : List ℕ) → IsWindow k m list →
      slice_get (windows k m) (unwrap_or (number_of k m list) 0) ≡ Some list
  item k m list window = item_of k m (unwrap_or (number_of k m list) 0) list (numbered k m list window)

  window_at : (k m n : ℕ) (e : List ℕ) → n < length (windows k m) → IsWindow k m (get_or (windows k m) n e)
  window_at k m n e lt =
      (has_number k m (get_or (windows k m) n e)).0
      (subst IsSome (sym (number_at k m n (get_or (windows k m) n e) (slice_get-get_or (windows k m) n e lt))) refl)

  -- a window of a tuple
  part_window : (t : ChannelTable) (s : Separation) (step : ℕ) (tuple : List ℕ) → step ≤ extra s
      → IsWindow (2 * t.rounds + 1 + extra s) t.ids tuple
      → IsWindow (2 * t.rounds + 1) t.ids (part_at t.rounds step tuple)
  part_window t s step tuple le window =
      let ring = is_ring t.ids t.rounds (extra s) tuple (omega arith) window in
      subst (IsWindow (2 * t.rounds + 1) t.ids) (ring.2 step le)
      (has_window t.ids t.rounds t.rounds (t.rounds + step) tuple ring.0 (omega arith))

  -- the table with two identifiers exchanged
  module _ (t : ChannelTable) (channels : ℕ) (s : Separation) (a b : ℕ) (a_below : a < t.ids)
      (b_below : b < t.ids) where
    abbrev pub p : Problem
    p = problem_of t channels s

    abbrev pub size : ℕ
    size = length (windows_of p)

    abbrev turned : ℕ → List ℕ
    turned w = map (exchanged a b) (get_or (windows_of p) w [])

    turned_window : (w : ℕ) → w < size → IsWindow (2 * t.rounds + 1) t.ids (turned w)
    turned_window w lt =
        window_stays a b (2 * t.rounds + 1) t.ids (get_or (windows_of p) w []) a_below b_below
        (window_at (2 * t.rounds + 1) t.ids w [] lt)

    turned_item : (w : ℕ) → w < size → slice_get (windows_of p) (exchanged_window p a b w) ≡ Some (turned w)
    turned_item w lt = item (2 * t.rounds + 1) t.ids (turned w) (turned_window w lt)

    turned_below : (w : ℕ) → w < size → exchanged_window p a b w < size
    turned_below w lt = slice_get_within (windows_of p) (exchanged_window p a b w) (turned w) (turned_item w lt)

    turned_twice : (w : ℕ) → w < size → exchanged_window p a b (exchanged_window p a b w) ≡ w
    turned_twice w lt =
        let list : List ℕ = get_or (windows_of p) w [] in
        let number : List ℕ → ℕ = λ l. unwrap_or (number_of (2 * t.rounds + 1) t.ids l) 0 in
        ap (λ l. number (map (exchanged a b) l))
        (get_or_from_slice_get (windows_of p) (exchanged_window p a b w) (turned w) [] (turned_item w lt))
        ∙ ap number (list_twice a b list)
        ∙ ap (λ o. unwrap_or o 0)
        (number_at (2 * t.rounds + 1) t.ids w list (slice_get-get_or (windows_of p) w [] lt))

    -- its entries
    abbrev pub entry : ℕ → ℕ
    entry w = get_or t.entries (exchanged_window p a b w) 0

    abbrev pub u : ChannelTable
    u = record { ids = t.ids; rounds = t.rounds; channels = t.channels; entries = map entry (range_with_len 0 size) }

    entry_is : (w : ℕ) → w < size → get_or u.entries w 0 ≡ entry w
    entry_is w lt = get_or-map-range_with_len entry 0 size w w 0 lt (zero-add w)

    pub u_table : IsTable t → IsTable u
    u_table table =
        let same : length u.entries ≡ size = length-map-range_with_len entry 0 size in
        record {
          begun = record {
            few_rounds = table.begun.few_rounds;
            shape = table.begun.shape;
            some_channels = table.begun.some_channels;
            few_channels = table.begun.few_channels;
            size = omega arith;
            below =
                All-map (λ c. c < t.channels) entry (range_with_len 0 size)
                (All-weaker (λ w. w < size) (λ w. entry w < t.channels)
                (λ w lt.
                let below = turned_below w lt in
                table.begun.below (exchanged_window p a b w) 0 (omega (arith, below, table.size)))
                (range_with_len 0 size) (all_below size));
          };
          size = same;
        }

    -- its channel at a window
    pub channel_is : (list : List ℕ) → IsWindow (2 * t.rounds + 1) t.ids list →
        channel_of u list ≡ channel_of t (map (exchanged a b) list)
    channel_is list window =
        let k : ℕ = 2 * t.rounds + 1 in
        let n : ℕ = unwrap_or (number_of k t.ids list) 0 in
        let lt : n < size = slice_get_within (windows_of p) n list (item k t.ids list window) in
        let there : List ℕ = map (exchanged a b) list in
        ap (option_map (λ i. get_or u.entries i 0)) (numbered k t.ids list window)
        ∙ ap Some (entry_is n lt)
        ∙ ap (λ l. Some (get_or t.entries (unwrap_or (number_of k t.ids (map (exchanged a b) l)) 0) 0))
        (get_or_from_slice_get (windows_of p) n list [] (item k t.ids list window))
        ∙ sym (ap (option_map (λ i. get_or t.entries i 0))
        (numbered k t.ids there (window_stays a b k t.ids list a_below b_below window)))

    part_is : (step : ℕ) (tuple : List ℕ) → step ≤ extra s → IsWindow (2 * t.rounds + 1 + extra s) t.ids tuple
        → channel_of u (part_at t.rounds step tuple) ≡ channel_of t (part_at t.rounds step (map (exchanged a b) tuple))
    part_is step tuple le window =
        channel_is (part_at t.rounds step tuple) (part_window t s step tuple le window)
        ∙ ap (channel_of t) (part_stays a b t.rounds step tuple)

    close_is : (step distance : ℕ) (tuple : List ℕ) → step ≤ extra s → IsWindow (2 * t.rounds + 1 + extra s) t.ids tuple
        → AreClose distance (channel_of u (part_at t.rounds 0 tuple)) (channel_of u (part_at t.rounds step tuple))
        → AreClose distance (channel_of t (part_at t.rounds 0 (map (exchanged a b) tuple)))
        (channel_of t (part_at t.rounds step (map (exchanged a b) tuple)))
    close_is step distance tuple le window close =
        subst (λ (o : Option ℕ). AreClose distance o (channel_of t (part_at t.rounds step (map (exchanged a b) tuple))))
        (part_is 0 tuple (omega arith) window)
        (subst (λ (o : Option ℕ). AreClose distance (channel_of u (part_at t.rounds 0 tuple)) o) (part_is step tuple le window) close)

    bad_is : (tuple : List ℕ) → IsWindow (2 * t.rounds + 1 + extra s) t.ids tuple → IsBad u s tuple →
        IsBad t s (map (exchanged a b) tuple)
    unfolding IsBad
    bad_is tuple window bad =
        let part : ℕ → Option ℕ = λ step. channel_of u (part_at t.rounds step tuple) in
        ⊎_elim
        (λ (close : AreClose s.near (part 0) (part 1)). inl (close_is 1 s.near tuple (omega arith) window close))
        (λ (close : AreClose s.far (part 0) (part 2)).
        inr (close_is 2 s.far tuple (two_of_far s (part 0) (part 2) close) window close))
        bad

    pub u_apart : IsApart t s → IsApart u s
    u_apart good n e within bad =
        let k : ℕ = 2 * t.rounds + 1 + extra s in
        let tuple : List ℕ = get_or (windows k t.ids) n e in
        let window = window_at k t.ids n e within in
        let there : List ℕ = map (exchanged a b) tuple in
        let placed = item k t.ids there (window_stays a b k t.ids tuple a_below b_below window) in
        let m : ℕ = unwrap_or (number_of k t.ids there) 0 in
        good m e (slice_get_within (windows k t.ids) m there placed)
        (subst (IsBad t s) (sym (get_or_from_slice_get (windows k t.ids) m there e placed)) (bad_is tuple window bad))

    pub literal_is : 0 < channels → (l : Literal) → l.variable < size * channels
        → is_true_literal (values_of p u) (exchanged_literal p (Identifiers a b) l) ≡ is_true_literal (values_of p t) l
    literal_is some l lt =
        let w : ℕ = l.variable / channels in
        let c : ℕ = l.variable % channels in
        let w_below : w < size = div_below l.variable channels size some lt in
        let c_below : c < channels = mod_below l.variable channels some in
        ap (λ q. is_same_value q l.is_positive)
        (value_at p u (exchanged_window p a b w) c c_below
        ∙ ap (λ x. x == c)
        (entry_is (exchanged_window p a b w) (turned_below w w_below)
        ∙ ap (λ n. get_or t.entries n 0) (turned_twice w w_below)))

  -- the table with its channels exchanged by a function that keeps the channels below a number and the separation
  module _ (t : ChannelTable) (channels : ℕ) (s : Separation) (f : ℕ → ℕ) (stays : (c : ℕ) → c < channels
      → f c < channels)
      (same : (c d : ℕ) → c < channels → d < channels → (f c == f d) ≡ (c == d)) (near : IsNoCloser f channels s.near)
      (far : IsNoCloser f channels s.far) where
    abbrev q : Problem
    q = problem_of t channels s

    abbrev pub v : ChannelTable
    v = record { ids = t.ids; rounds = t.rounds; channels = channels; entries = map f t.entries }

    pub v_table : IsTable t → t.channels ≤ channels → channels ≤ MAX_CHANNELS → IsTable v
    v_table table few fits =
        let long : length v.entries ≡ length t.entries = length-map t.entries f in
        record {
          begun = record {
            few_rounds = table.begun.few_rounds;
            shape = table.begun.shape;
            some_channels = omega (arith, table.begun.some_channels);
            few_channels = fits;
            size = omega (arith, long, table.size);
            below =
                All-map (λ c. c < channels) f t.entries
                (All-weaker (λ c. c < t.channels) (λ c. f c < channels) (λ c lt. stays c (omega arith)) t.entries table.begun.below);
          };
          size = long ∙ table.size;
        }

    -- its entry for a window with a number, and that of the other table
    module _ (table : IsTable t) (few : t.channels ≤ channels) where
      own_below : (w : ℕ) → w < length (windows_of q) → get_or t.entries w 0 < channels
      own_below w lt = let below = table.begun.below w 0 (omega (arith, table.size)) in omega arith

      pub v_entry : (w : ℕ) → w < length (windows_of q) → get_or v.entries w 0 ≡ f (get_or t.entries w 0)
      v_entry w lt = get_or-map f t.entries w 0 0 (omega (arith, table.size))

      abbrev number : List ℕ → ℕ
      number list = unwrap_or (number_of (2 * t.rounds + 1) t.ids list) 0

      number_below : (list : List ℕ) → IsWindow (2 * t.rounds + 1) t.ids list → number list < length (windows_of q)
      number_below list window =
          slice_get_within (windows_of q) (number list) list (item (2 * t.rounds + 1) t.ids list window)

      t_channel : (list : List ℕ) → IsWindow (2 * t.rounds + 1) t.ids list
          → channel_of t list ≡ Some (get_or t.entries (number list) 0)
      t_channel list window = ap (option_map (λ i. get_or t.entries i 0))
          (numbered (2 * t.rounds + 1) t.ids list window)

      v_channel : (list : List ℕ) → IsWindow (2 * t.rounds + 1) t.ids list
          → channel_of v list ≡ Some (f (get_or t.entries (number list) 0))
      v_channel list window =
          ap (option_map (λ i. get_or v.entries i 0)) (numbered (2 * t.rounds + 1) t.ids list window)
          ∙ ap Some (v_entry (number list) (number_below list window))

      v_close : (distance : ℕ) (one two : List ℕ) → IsNoCloser f channels distance
          → IsWindow (2 * t.rounds + 1) t.ids one
          → IsWindow (2 * t.rounds + 1) t.ids two → AreClose distance (channel_of v one) (channel_of v two)
          → AreClose distance (channel_of t one) (channel_of t two)
      v_close distance one two kept window_one window_two close =
          let c : ℕ = get_or t.entries (number one) 0 in
          let d : ℕ = get_or t.entries (number two) 0 in
          let there : AreClose distance (Some (f c)) (Some (f d)) =
          subst (λ (o : Option ℕ). AreClose distance (Some (f c)) o) (v_channel two window_two)
          (subst (λ (o : Option ℕ). AreClose distance o (channel_of v two)) (v_channel one window_one) close) in
          let here : AreClose distance (Some c) (Some d) =
          kept c d (own_below (number one) (number_below one window_one))
          (own_below (number two) (number_below two window_two)) there in
          subst (λ (o : Option ℕ). AreClose distance (channel_of t one) o) (sym (t_channel two window_two))
          (subst (λ (o : Option ℕ). AreClose distance o (Some d)) (sym (t_channel one window_one)) here)

      v_bad : (tuple : List ℕ) → IsWindow (2 * t.rounds + 1 + extra s) t.ids tuple → IsBad v s tuple → IsBad t s tuple
      unfolding IsBad
      v_bad tuple window bad =
          let part : ℕ → List ℕ = λ step. part_at t.rounds step tuple in
          let placed : (step : ℕ) → step ≤ extra s → IsWindow (2 * t.rounds + 1) t.ids (part step) =
          λ step le. part_window t s step tuple le window in
          ⊎_elim
          (λ (close : AreClose s.near (channel_of v (part 0)) (channel_of v (part 1))).
          inl (v_close s.near (part 0) (part 1) near (placed 0 (omega arith)) (placed 1 (omega arith)) close))
          (λ (close : AreClose s.far (channel_of v (part 0)) (channel_of v (part 2))).
          inr (v_close s.far (part 0) (part 2) far (placed 0 (omega arith))
          (placed 2 (two_of_far s (channel_of v (part 0)) (channel_of v (part 2)) close)) close))
          bad

      pub v_apart : IsApart t s → IsApart v s
      v_apart good n e within bad =
          let k : ℕ = 2 * t.rounds + 1 + extra s in
          good n e within (v_bad (get_or (windows k t.ids) n e) (window_at k t.ids n e within) bad)

      -- a variable of the other table says there what it says here after the exchange
      pub v_variable : 0 < channels → (variable : ℕ) → variable < length (windows_of q) * channels
          → values_of q v (variable_of q (variable / channels) (f (variable % channels))) ≡ values_of q t variable
      v_variable some variable lt =
          let w : ℕ = variable / channels in
          let c : ℕ = variable % channels in
          let w_below : w < length (windows_of q) = div_below variable channels (length (windows_of q)) some lt in
          let c_below : c < channels = mod_below variable channels some in
          value_at q v w (f c) (stays c c_below)
          ∙ ap (λ x. x == f c) (v_entry w w_below)
          ∙ same (get_or t.entries w 0) c (own_below w w_below) c_below

  -- what is to be shown, of a problem of the shape of a table
  abbrev pub Keeps : ChannelTable → Problem → Type 0
  Keeps t p =
      (x : Exchange) → can_exchange p x ≡ true
      → (u : ChannelTable) × IsSolution p u
      × ((l : Literal) → l.variable < variable_count p
      → is_true_literal (values_of p u) (exchanged_literal p x l) ≡ is_true_literal (values_of p t) l)
