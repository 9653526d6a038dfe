-- Values that make all clauses hold describe a table that is asked for.
use Rattle.std.proofs.Common.{◌≡◌, ℕ, zero, suc, ◌+◌, ◌*◌, ◌<◌, ◌≤◌, Bool, true, false, ◌||◌, cond, List, [], ◌∷◌, ◌++◌}
use Rattle.std.proofs.Common.{map, All, length, get_or, Option, None, Some, IsSome, unwrap_or, refl, sym, ap, ◌∙◌}
use Rattle.std.proofs.Common.{subst, ⊎_elim, arith, zero-add}
use Rattle.std.specs.Int.{abs_diff}
use Rattle.std.specs.List.{list_any, range_with_len, flat_map, filter}
use Rattle.std.proofs.lemmas.Bool.{lt-ltb}
use Rattle.std.proofs.lemmas.List.FromFn.{length-range_with_len, get_or-range_with_len}
use Rattle.std.proofs.lemmas.List.FromFn.{get_or-map-range_with_len, length-map-range_with_len}
use Rattle.std.proofs.lemmas.List.Elements.{All-head, All-tail, All-cons, All-nil, All-map, All-weaker}
use Rattle.std.proofs.lemmas.Option.{slice_get-get_or, slice_get_within}
use Rattle.win_index.specs.Arcs.{part_at}
use Rattle.win_index.specs.Laws.{NumberOfWindow, WindowOfNumber, WindowsHaveNumbers, RingsHaveWindows, TuplesAreRings}
use Rattle.win_index.specs.Windows.{windows, number_of, IsWindow}
use Rattle.channel_tables.specs.Tables.{ChannelTable, IsTable, channel_of}
use Rattle.channel_tables.specs.declared.separation.Separation.{Separation}
use Rattle.channel_tables.specs.Apart.{extra, AreClose, IsBad, IsApart}
use Rattle.channel_tables.specs.Laws.{TuplesSuffice}
use Rattle.table_formula.specs.Clauses.{is_same_value, is_true_literal, Holds}
use Rattle.table_formula.specs.declared.formula.conflict.Conflict.{Conflict}
use Rattle.table_formula.specs.Problems.{Problem}
use Rattle.table_formula.specs.Formula.{windows_of, tuples_of, variable_of, has_channel, some_channel, is_close}
use Rattle.table_formula.specs.Formula.{close_to, close_pairs, conflicts_of, window_in, not_both}
use Rattle.table_formula.specs.Formula.{not_too_close, apart_formula}
use Rattle.table_formula.specs.Laws.{HasTables}
use Rattle.table_formula.proofs.ClauseLists.{all_below, some_value, any_map}
use Rattle.table_formula.proofs.Satisfied.{part_channel}

-- the elements of parts of a list
pub all_front : {X : Type 0} (P : X → Type 0) (xs ys : List X) → All P (xs ++ ys) → All P xs
all_front P [] ys h = All-nil P
all_front P (x ∷ xs) ys h = All-cons P x xs (All-head P x (xs ++ ys) h) (all_front P xs ys (All-tail P x (xs ++ ys) h))

pub all_back : {X : Type 0} (P : X → Type 0) (xs ys : List X) → All P (xs ++ ys) → All P ys
all_back P [] ys h = h
all_back P (x ∷ xs) ys h = all_back P xs ys (All-tail P x (xs ++ ys) h)

pub all_of_map : {X Y : Type 0} (P : Y → Type 0) (f : X → Y) (xs : List X) → All P (map f xs) → All (λ x. P (f x)) xs
all_of_map P f [] h = All-nil (λ x. P (f x))
all_of_map P f (x ∷ xs) h =
    All-cons (λ y. P (f y)) x xs (All-head P (f x) (map f xs) h) (all_of_map P f xs (All-tail P (f x) (map f xs) h))

pub all_of_flat : {X Y : Type 0} (P : Y → Type 0) (f : X → List Y) (xs : List X) → All P (flat_map f xs) →
    All (λ x. All P (f x)) xs
all_of_flat P f [] h = All-nil (λ x. All P (f x))
all_of_flat P f (x ∷ xs) h = All-cons (λ y. All P (f y)) x xs (all_front P (f x) (flat_map f xs) h)
    (all_of_flat P f xs (all_back P (f x) (flat_map f xs) h))

head_kept : {X : Type 0} (P : X → Type 0) (b : Bool) (x : X) (xs : List X) → All P (cond b (x ∷ xs) xs) →
    (b ≡ true → P x) × All P xs
head_kept P true x xs h = (λ _. All-head P x xs h, All-tail P x xs h)
head_kept P false x xs h = (λ e. cc, h)

all_of_kept : {X : Type 0} (P : X → Type 0) (test : X → Bool) (xs : List X) → All P (filter test xs) →
    All (λ x. test x ≡ true → P x) xs
all_of_kept P test [] h = All-nil (λ x. test x ≡ true → P x)
all_of_kept P test (x ∷ xs) h =
    let parts = head_kept P (test x) x (filter test xs) h in
    All-cons (λ y. test y ≡ true → P y) x xs parts.0 (all_of_kept P test xs parts.1)

-- a fact of each number of a range
at_number : (P : ℕ → Type 0) (n k : ℕ) → All P (range_with_len 0 n) → k < n → P k
at_number P n k h lt =
    subst P (get_or-range_with_len 0 n k 0 lt ∙ zero-add k) (h k 0 (omega (arith, length-range_with_len 0 n)))

-- a pair of channels that are close is forbidden
close_pair : (P : Conflict → Type 0) (channels step distance c d : ℕ) →
    All P (close_pairs channels step distance) → c < channels → d < channels
    → abs_diff c d < distance → P (record { step = step; first = c; second = d })
close_pair P channels step distance c d h first second close =
    let pair : ℕ → Conflict = λ (second : ℕ). record { step = step; first = c; second = second } in
    let of_first : All P (close_to channels step distance c) =
    at_number (λ x. All P (close_to channels step distance x)) channels c
    (all_of_flat P (close_to channels step distance) (range_with_len 0 channels) h) first in
    let kept = all_of_kept P (is_close distance) (map pair (range_with_len 0 channels)) of_first in
    at_number (λ x. is_close distance (pair x) ≡ true → P (pair x)) channels d
    (all_of_map (λ k. is_close distance k ≡ true → P k) pair (range_with_len 0 channels) kept) second
    (lt-ltb (abs_diff c d) distance close)

-- the first number of a range that passes
pub first_in : (ℕ → Bool) → ℕ → ℕ → ℕ
first_in q start zero = start
first_in q start (suc n) = cond (q start) start (first_in q (start + 1) n)

one_first : (b : Bool) (q : ℕ → Bool) (start n rest : ℕ) → q start ≡ b →
    (b ≡ false → (rest < start + suc n) × (q rest ≡ true)) →
    (cond b start rest < start + suc n) × (q (cond b start rest) ≡ true)
one_first true q start n rest e h = (omega arith, e)
one_first false q start n rest e h = h refl

first_passes : (q : ℕ → Bool) (start n : ℕ) → list_any q (range_with_len start n) ≡ true →
    (first_in q start n < start + n) × (q (first_in q start n) ≡ true)
unfolding first_in
first_passes q start zero h = cc
first_passes q start (suc n) h =
    one_first (q start) q start n (first_in q (start + 1) n) refl (λ no.
    let later : list_any q (range_with_len (start + 1) n) ≡ true =
    sym (ap (λ b. b || list_any q (range_with_len (start + 1) n)) no) ∙ h in
    let found = first_passes q (start + 1) n later in
    let below = found.0 in
    (omega arith, found.1))

-- two negated variables, one of which is false
not_both_true : (a b : Bool) → (is_same_value a false || (is_same_value b false || false)) ≡ true →
    a ≡ true → b ≡ true → ⊥
not_both_true true true h x y = cc
not_both_true true false h x y = cc
not_both_true false b h x y = cc

-- the table that values describe
abbrev pub channel_in : Problem → (ℕ → Bool) → ℕ → ℕ
channel_in p values w = first_in (λ c. values (variable_of p w c)) 0 p.channels

abbrev pub table_of : Problem → (ℕ → Bool) → ChannelTable
table_of p values =
    record {
      ids = p.ids;
      rounds = p.rounds;
      channels = p.channels;
      entries = map (channel_in p values) (range_with_len 0 (length (windows_of p)));
    }

positive : (b : Bool) → is_same_value b true ≡ true → b ≡ true
positive true h = refl
positive false h = h

some_any : (q r : ℕ → Bool) → ((c : ℕ) → q c ≡ true → r c ≡ true) → (start n : ℕ) →
    list_any q (range_with_len start n) ≡ true → list_any r (range_with_len start n) ≡ true
some_any q r h start zero e = e
some_any q r h start (suc n) e = or_step (q start) (r start) _ _ (h start) (some_any q r h (start + 1) n) e
  where
    or_step : (a b x y : Bool) → (a ≡ true → b ≡ true) → (x ≡ true → y ≡ true) → (a || x) ≡ true → (b || y) ≡ true
    or_step a true x y f g k = refl
    or_step true false x y f g k = let no : false ≡ true = f refl in cc
    or_step false false x y f g k = g k

-- far is not 0 if channels are closer than far
pub two_of_far : (s : Separation) (a b : Option ℕ) → AreClose s.far a b → 2 ≤ extra s
two_of_far s None b close = absurd close
two_of_far s (Some c) None close = absurd close
two_of_far s (Some c) (Some d) close = omega (arith, close)

module _ (suffice : TuplesSuffice) (is_ring : TuplesAreRings) (has_window : RingsHaveWindows)
    (has_number : WindowsHaveNumbers)
    (number_at : NumberOfWindow) (item_of : WindowOfNumber) where
  -- the number of a window of a tuple
  part_number : (t : ChannelTable) (s : Separation) (step : ℕ) (tuple : List ℕ) → step ≤ extra s →
      IsWindow (2 * t.rounds + 1 + extra s) t.ids tuple
      → unwrap_or (number_of (2 * t.rounds + 1) t.ids (part_at t.rounds step tuple)) 0
      < length (windows (2 * t.rounds + 1) t.ids)
  part_number t s step tuple le window =
      let ring = is_ring t.ids t.rounds (extra s) tuple (omega arith) window in
      let part : List ℕ = part_at t.rounds step tuple in
      let is : IsWindow (2 * t.rounds + 1) t.ids part =
      subst (IsWindow (2 * t.rounds + 1) t.ids) (ring.2 step le)
      (has_window t.ids t.rounds t.rounds (t.rounds + step) tuple ring.0 (omega arith)) in
      let number : Option ℕ = number_of (2 * t.rounds + 1) t.ids part in
      let some = some_value number ((has_number (2 * t.rounds + 1) t.ids part).1 is) in
      slice_get_within (windows (2 * t.rounds + 1) t.ids) (unwrap_or number 0) part
      (item_of (2 * t.rounds + 1) t.ids (unwrap_or number 0) part some)

  module _ (p : Problem) (values : ℕ → Bool) (all : All (Holds values) (apart_formula p)) where
    window_clauses : All (Holds values) (map (some_channel p) (range_with_len 0 (length (windows_of p))))
    unfolding apart_formula
    window_clauses = all_front (Holds values) (map (some_channel p) (range_with_len 0 (length (windows_of p))))
        (flat_map (not_too_close p) (tuples_of p)) all

    tuple_clauses : All (λ tuple. All (Holds values) (not_too_close p tuple)) (tuples_of p)
    unfolding apart_formula
    tuple_clauses =
        all_of_flat (Holds values) (not_too_close p) (tuples_of p)
        (all_back (Holds values) (map (some_channel p) (range_with_len 0 (length (windows_of p))))
        (flat_map (not_too_close p) (tuples_of p)) all)

    -- the channel of a window
    pub channel_is : (w : ℕ) → w < length (windows_of p) →
        (channel_in p values w < p.channels) × (values (variable_of p w (channel_in p values w)) ≡ true)
    channel_is w lt =
        let holds : Holds values (some_channel p w) =
        at_number (λ n. Holds values (some_channel p n)) (length (windows_of p)) w
        (all_of_map (Holds values) (some_channel p) (range_with_len 0 (length (windows_of p))) window_clauses) lt in
        let some : list_any (λ c. is_true_literal values (has_channel p w c)) (range_with_len 0 p.channels) ≡ true =
        sym (any_map (is_true_literal values) (has_channel p w) (range_with_len 0 p.channels)) ∙ holds in
        let found = first_passes (λ c. values (variable_of p w c)) 0 p.channels
        (some_any (λ c. is_true_literal values (has_channel p w c)) (λ c. values (variable_of p w c))
        (λ c. positive (values (variable_of p w c))) 0 p.channels some) in
        let below = found.0 in
        (omega arith, found.1)

    pub entry_is : (w : ℕ) → w < length (windows_of p) → get_or (table_of p values).entries w 0 ≡ channel_in p values w
    entry_is w lt = get_or-map-range_with_len (channel_in p values) 0 (length (windows_of p)) w w 0 lt (zero-add w)

    pub is_table : HasTables p → IsTable (table_of p values)
    is_table has =
        let size : length (table_of p values).entries ≡ length (windows_of p) =
        length-map-range_with_len (channel_in p values) 0 (length (windows_of p)) in
        record {
          begun = record {
            few_rounds = has.few_rounds;
            shape = has.shape;
            some_channels = has.some_channels;
            few_channels = has.few_channels;
            size = omega arith;
            below =
                All-map (λ c. c < p.channels) (channel_in p values) (range_with_len 0 (length (windows_of p)))
                (All-weaker (λ w. w < length (windows_of p)) (λ w. channel_in p values w < p.channels)
                (λ w lt. (channel_is w lt).0)
                (range_with_len 0 (length (windows_of p))) (all_below (length (windows_of p))));
          };
          size = size;
        }

    -- channels of windows of a tuple that are close break a clause
    none_close : (step distance : ℕ) (tuple : List ℕ) → step ≤ extra p.separation →
        IsWindow (2 * p.rounds + 1 + extra p.separation) p.ids tuple
        → All (λ k. Holds values (not_both p tuple k)) (close_pairs p.channels step distance)
        → AreClose distance (channel_of (table_of p values) (part_at p.rounds 0 tuple))
        (channel_of (table_of p values) (part_at p.rounds step tuple)) → ⊥
    none_close step distance tuple le window hold close =
        let t : ChannelTable = table_of p values in
        let v : ℕ = window_in p tuple 0 in
        let w : ℕ = window_in p tuple step in
        let v_below : v < length (windows_of p) = part_number t p.separation 0 tuple (omega arith) window in
        let w_below : w < length (windows_of p) = part_number t p.separation step tuple le window in
        let here = part_channel suffice is_ring has_window has_number number_at t p.separation p.channels 0 tuple
        (omega arith) window ∙ ap Some (entry_is v v_below) in
        let there = part_channel suffice is_ring has_window has_number number_at t p.separation p.channels step tuple le
        window ∙ ap Some (entry_is w w_below) in
        let c = channel_is v v_below in
        let d = channel_is w w_below in
        let near : abs_diff (channel_in p values v) (channel_in p values w) < distance =
        subst (λ (o : Option ℕ). AreClose distance (Some (channel_in p values v)) o) there
        (subst (λ (o : Option ℕ). AreClose distance o (channel_of t (part_at p.rounds step tuple))) here close) in
        not_both_true (values (variable_of p v (channel_in p values v)))
        (values (variable_of p w (channel_in p values w)))
        (close_pair (λ k. Holds values (not_both p tuple k)) p.channels step distance (channel_in p values v)
        (channel_in p values w) hold c.0 d.0 near)
        c.1 d.1

    pub apart : IsApart (table_of p values) p.separation
    unfolding IsBad
    apart k e within bad =
        let t : ChannelTable = table_of p values in
        let s = p.separation in
        let tuple : List ℕ = get_or (tuples_of p) k e in
        let item = slice_get-get_or (tuples_of p) k e within in
        let numbered = number_at (2 * p.rounds + 1 + extra s) p.ids k tuple item in
        let window = (has_number (2 * p.rounds + 1 + extra s) p.ids tuple).0 (subst IsSome (sym numbered) refl) in
        let P : Conflict → Type 0 = λ k. Holds values (not_both p tuple k) in
        let hold : All P (conflicts_of p) =
        all_of_map (Holds values) (not_both p tuple) (conflicts_of p) (tuple_clauses k e within) in
        let part : ℕ → Option ℕ = λ step. channel_of t (part_at p.rounds step tuple) in
        ⊎_elim
        (λ (close : AreClose s.near (part 0) (part 1)).
        none_close 1 s.near tuple (omega arith) window
        (all_front P (close_pairs p.channels 1 s.near) (close_pairs p.channels 2 s.far) hold) close)
        (λ (close : AreClose s.far (part 0) (part 2)).
        none_close 2 s.far tuple (two_of_far s (part 0) (part 2) close) window
        (all_back P (close_pairs p.channels 1 s.near) (close_pairs p.channels 2 s.far) hold) close)
        bad
