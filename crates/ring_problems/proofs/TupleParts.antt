-- Tuples by their numbers and by their content.
use Rattle.std.proofs.Common.{◌≡◌, ℕ, ◌+◌, ◌-◌, ◌*◌, ◌/◌, ◌%◌, ◌<◌, ◌≤◌, Bool, true, false, cond, List, [], ◌∷◌, ◌++◌}
use Rattle.std.proofs.Common.{Option, None, length, get_or, take, drop, flat_map, option_map, slice_get, Some, refl}
use Rattle.std.proofs.Common.{sym, ap, ◌∙◌, subst, arith, add-one, length-drop, length-append, append-nil, get_or-drop}
use borrow.Rule.Slice.PartMut.{put_mid}
use Rattle.std.proofs.lemmas.List.{take_all, take_at, take_more, drop-take, length_push, length-map, drop-append-le}
use Rattle.std.proofs.lemmas.List.{drop_all, take-append-drop, take-append-le, append_assoc}
use Rattle.std.proofs.lemmas.Nat.{mul-le, mod_below, div-add-mod'}
use Rattle.std.proofs.lemmas.Option.{none-some, same_Some, slice_get-map, slice_get_within, slice_get-get_or}
use Rattle.win_index.specs.Windows.{is_used, unused, windows, IsWindow}
use Rattle.win_index.proofs.Windows.{unused_left, push_window, windows_all, windows_more, window_from_parts, HasPieces, piece_of, piece_at, length_pieces, free_at, window_place, unused_at, unused_is, back_window}
use Rattle.ring_problems.specs.declared.pattern.Pattern.{Pattern}
use Rattle.ring_problems.specs.Patterns.{is_long, extra}
use Rattle.ring_problems.specs.TupleLists.{followed, tuples_below, per_pair, IsTuple}

-- by cases on a test
pub by_test : (P : Type 0) (b : Bool) → (b ≡ true → P) → (b ≡ false → P) → P
by_test P true f g = f refl
by_test P false f g = g refl

-- problems with patterns of three entries, and without
pub long_tuples : (m t : ℕ) (problem : List Pattern) → is_long problem ≡ true
    → tuples_below m t problem ≡ flat_map (followed m) (windows (2 * t + 1 + 1) m)
unfolding tuples_below
long_tuples m t problem long =
    ap (λ b. cond b (flat_map (followed m) (windows (2 * t + 1 + 1) m)) (windows (2 * t + 1 + 1) m)) long

pub short_tuples : (m t : ℕ) (problem : List Pattern) → is_long problem ≡ false
    → tuples_below m t problem ≡ windows (2 * t + 1 + 1) m
unfolding tuples_below
short_tuples m t problem short =
    ap (λ b. cond b (flat_map (followed m) (windows (2 * t + 1 + 1) m)) (windows (2 * t + 1 + 1) m)) short

pub long_extra : (problem : List Pattern) → is_long problem ≡ true → extra problem ≡ 2
long_extra problem long = ap (λ b. cond b 2 1) long

pub short_extra : (problem : List Pattern) → is_long problem ≡ false → extra problem ≡ 1
short_extra problem short = ap (λ b. cond b 2 1) short

pub long_each : (m t : ℕ) (problem : List Pattern) → is_long problem ≡ true → per_pair m t problem ≡ m - (2 * t + 1)
long_each m t problem long = ap (λ b. cond b (m - (2 * t + 1)) 1) long

pub short_each : (m t : ℕ) (problem : List Pattern) → is_long problem ≡ false → per_pair m t problem ≡ 1
short_each m t problem short = ap (λ b. cond b (m - (2 * t + 1)) 1) short

pieces : (k m : ℕ) → HasPieces (followed m) (windows (k + 1) m) (m - k)
pieces k m = λ place list at'.
    let own = back_window k m list (windows_all (k + 1) m place list at') in
    omega (arith, followed_len m list, unused_left own)
  where
    followed_len : (m : ℕ) (list : List ℕ) → length (followed m list) ≡ length (unused m (drop 1 list))
    followed_len m list = length-map (unused m (drop 1 list)) (λ x. list ++ x ∷ [])

map_some : {A B : Type 0} (f : A → B) (o : Option A) (b : B) → option_map f o ≡ Some b
    → (a : A) × (o ≡ Some a) × (f a ≡ b)
map_some f None b e = absurd (none-some b e)
map_some f (Some a) b e = (a, refl, same_Some (f a) b e)

-- an item of that list
followed_at : (m rest : ℕ) (list tuple : List ℕ) → slice_get (followed m list) rest ≡ Some tuple
    → (x : ℕ) × (slice_get (unused m (drop 1 list)) rest ≡ Some x) × (list ++ x ∷ [] ≡ tuple)
followed_at m rest list tuple at' =
    let longer : ℕ → List ℕ = λ x. list ++ x ∷ [] in
    map_some longer (slice_get (unused m (drop 1 list)) rest) tuple
    (sym (slice_get-map longer (unused m (drop 1 list)) rest) ∙ at')

-- 2t+2 identifiers and one more that is none of the second to the last
long_tuple : (m t x : ℕ) (problem : List Pattern) (pair : List ℕ) → is_long problem ≡ true
    → IsWindow (2 * t + 1 + 1) m pair → x < m
    → is_used (drop 1 pair) x ≡ false → IsTuple m t problem (pair ++ x ∷ [])
long_tuple m t x problem pair long window lt free =
    let size = window.size in
    let two = long_extra problem long in
    let one : 1 ≡ extra problem - 1 = omega (arith, two) in
    let shifted : drop 1 pair ++ x ∷ [] ≡ drop (extra problem - 1) (pair ++ x ∷ []) =
    sym (drop-append-le 1 pair (x ∷ []) (omega arith)) ∙ ap (λ n. drop n (pair ++ x ∷ [])) one in
    let back = push_window (2 * t + 1) m x (drop 1 pair) (back_window (2 * t + 1) m pair window) lt free in
    record {
      size = omega (arith, length_push pair x, size, two);
      front = subst (IsWindow (2 * t + 1 + 1) m) (sym (take_at pair (x ∷ []) (2 * t + 1 + 1) size)) window;
      back = subst (IsWindow (2 * t + 1 + 1) m) shifted
          (subst (λ n. IsWindow n m (drop 1 pair ++ x ∷ [])) (sym (add-one (2 * t + 1))) back);
    }

-- 2t+2 identifiers are a tuple if no pattern has three entries
pub short_tuple : (m t : ℕ) (problem : List Pattern) (pair : List ℕ) → is_long problem ≡ false
    → IsWindow (2 * t + 1 + 1) m pair
    → IsTuple m t problem pair
short_tuple m t problem pair short window =
    let size = window.size in
    let one = short_extra problem short in
    record {
      size = omega (arith, size, one);
      front = subst (IsWindow (2 * t + 1 + 1) m) (sym (take_all (2 * t + 1 + 1) pair (omega arith))) window;
      back = subst (λ n. IsWindow (2 * t + 1 + 1) m (drop n pair))
          (let none : 0 ≡ extra problem - 1 = omega (arith, one) in none) window;
    }

-- a tuple by its number
pub record TupleParts (m t : ℕ) (problem : List Pattern) (n : ℕ) (tuple : List ℕ) : Type 0 where
  pub place : ℕ
  pub rest : ℕ
  pub front_at : slice_get (windows (2 * t + 1 + 1) m) place ≡ Some (take (2 * t + 1 + 1) tuple)
  pub number : n ≡ place * per_pair m t problem + rest
  pub inside : rest < per_pair m t problem
  pub is : IsTuple m t problem tuple

parts_long : (m t n : ℕ) (problem : List Pattern) (tuple : List ℕ) → slice_get (tuples_below m t problem) n ≡ Some tuple
    → is_long problem ≡ true → TupleParts m t problem n tuple
parts_long m t n problem tuple at' long =
    let k : ℕ = 2 * t + 1 in
    let piece = piece_of (followed m) (windows (k + 1) m) (m - k) n tuple (pieces k m)
    (ap (λ list. slice_get list n) (sym (long_tuples m t problem long)) ∙ at') in
    let pair : List ℕ = piece.source in
    let window = windows_all (k + 1) m piece.place pair piece.source_at in
    let last = followed_at m piece.rest pair tuple piece.item_at in
    let own = unused_is (drop 1 pair) m piece.rest last.0 last.1 in
    let each = long_each m t problem long in
    let size = window.size in
    let front : pair ≡ take (k + 1) tuple = sym (take_at pair (last.0 ∷ []) (k + 1) size) ∙ ap (take (k + 1)) last.2 in
    record {
      place = piece.place;
      rest = piece.rest;
      front_at = piece.source_at ∙ ap Some front;
      number = piece.number ∙ ap (λ c. piece.place * c + piece.rest) (sym each);
      inside = omega (arith, each, slice_get_within (unused m (drop 1 pair)) piece.rest last.0 last.1, unused_left (back_window k m pair window));
      is = subst (IsTuple m t problem) last.2 (long_tuple m t last.0 problem pair long window own.below own.free);
    }

parts_short : (m t n : ℕ) (problem : List Pattern) (tuple : List ℕ)
    → slice_get (tuples_below m t problem) n ≡ Some tuple
    → is_long problem ≡ false → TupleParts m t problem n tuple
parts_short m t n problem tuple at' short =
    let k : ℕ = 2 * t + 1 in
    let placed : slice_get (windows (k + 1) m) n ≡ Some tuple =
    ap (λ list. slice_get list n) (sym (short_tuples m t problem short)) ∙ at' in
    let window = windows_all (k + 1) m n tuple placed in
    let each = short_each m t problem short in
    let size = window.size in
    record {
      place = n;
      rest = 0;
      front_at = placed ∙ ap Some (sym (take_all (k + 1) tuple (omega arith)));
      number = (let one : n ≡ n * 1 + 0 = omega arith in one) ∙ ap (λ c. n * c + 0) (sym each);
      inside = omega (arith, each);
      is = short_tuple m t problem tuple short window;
    }

pub tuple_parts : (m t n : ℕ) (problem : List Pattern) (tuple : List ℕ)
    → slice_get (tuples_below m t problem) n ≡ Some tuple
    → TupleParts m t problem n tuple
tuple_parts m t n problem tuple at' =
    by_test (TupleParts m t problem n tuple) (is_long problem) (parts_long m t n problem tuple at')
    (parts_short m t n problem tuple at')

-- the number of tuples
count_long : (m t : ℕ) (problem : List Pattern) → is_long problem ≡ true
    → length (tuples_below m t problem) ≡ length (windows (2 * t + 1 + 1) m) * per_pair m t problem
count_long m t problem long =
    ap length (long_tuples m t problem long)
    ∙ length_pieces (followed m) (windows (2 * t + 1 + 1) m) (m - (2 * t + 1)) (pieces (2 * t + 1) m)
    ∙ ap (λ c. length (windows (2 * t + 1 + 1) m) * c) (sym (long_each m t problem long))

count_short : (m t : ℕ) (problem : List Pattern) → is_long problem ≡ false
    → length (tuples_below m t problem) ≡ length (windows (2 * t + 1 + 1) m) * per_pair m t problem
count_short m t problem short =
    ap length (short_tuples m t problem short)
    ∙ (let one : length (windows (2 * t + 1 + 1) m) ≡ length (windows (2 * t + 1 + 1) m) * 1 = omega arith in one)
    ∙ ap (λ c. length (windows (2 * t + 1 + 1) m) * c) (sym (short_each m t problem short))

pub tuple_count : (m t : ℕ) (problem : List Pattern)
    → length (tuples_below m t problem) ≡ length (windows (2 * t + 1 + 1) m) * per_pair m t problem
tuple_count m t problem =
    by_test (length (tuples_below m t problem) ≡ length (windows (2 * t + 1 + 1) m) * per_pair m t problem)
    (is_long problem)
    (count_long m t problem) (count_short m t problem)

-- the tuple with a number, by its first identifiers and its last one
pub tuple_from : (m t place rest x : ℕ) (problem : List Pattern) (pair : List ℕ) → is_long problem ≡ true
    → slice_get (windows (2 * t + 1 + 1) m) place ≡ Some pair → slice_get (unused m (drop 1 pair)) rest ≡ Some x
    → slice_get (tuples_below m t problem) (place * (m - (2 * t + 1)) + rest) ≡ Some (pair ++ x ∷ [])
tuple_from m t place rest x problem pair long front last =
    let longer : ℕ → List ℕ = λ x. pair ++ x ∷ [] in
    ap (λ list. slice_get list (place * (m - (2 * t + 1)) + rest)) (long_tuples m t problem long)
    ∙ piece_at (followed m) (windows (2 * t + 1 + 1) m) (m - (2 * t + 1)) place rest pair (pair ++ x ∷ [])
    (pieces (2 * t + 1) m) front
    (slice_get-map longer (unused m (drop 1 pair)) rest ∙ ap (option_map longer) last)

-- each tuple has a number
place_long : (m t : ℕ) (problem : List Pattern) (tuple : List ℕ) → IsTuple m t problem tuple → is_long problem ≡ true
    → (n : ℕ) × (slice_get (tuples_below m t problem) n ≡ Some tuple)
place_long m t problem tuple is long =
    let k : ℕ = 2 * t + 1 in
    let two = long_extra problem long in
    let size = is.size in
    let pair : List ℕ = take (k + 1) tuple in
    let x : ℕ = get_or tuple (k + 1) 0 in
    let place = window_place (k + 1) m pair is.front in
    let back : IsWindow (k + 1) m (drop 1 tuple) =
    subst (λ n. IsWindow (k + 1) m (drop n tuple))
    (let one : extra problem - 1 ≡ 1 = omega (arith, two) in one) is.back in
    let back_size = back.size in
    let split : 1 + k ≡ k + 1 = omega arith in
    let front : take k (drop 1 tuple) ≡ drop 1 pair =
    sym (drop-take 1 k tuple) ∙ ap (λ n. drop 1 (take n tuple)) split in
    let at_x : get_or (drop 1 tuple) k 0 ≡ x = get_or-drop 1 tuple k 0 ∙ ap (λ n. get_or tuple n 0) split in
    let free : is_used (drop 1 pair) x ≡ false =
    (λ i. is_used (sym front i) (sym at_x i)) ∙ free_at (drop 1 tuple) k back.distinct (omega arith) in
    let below : x < m = subst (λ y. y < m) at_x (back.below k 0 (omega arith)) in
    let whole : pair ++ x ∷ [] ≡ tuple =
    sym (take_more tuple (k + 1) 0 (omega arith)) ∙ take_all (k + 1 + 1) tuple (omega arith) in (
      place.0 * (m - k) + length (unused x (drop 1 pair)),
      tuple_from m t place.0 (length (unused x (drop 1 pair))) x problem pair long place.1
          (unused_at (drop 1 pair) m x below free) ∙ ap Some whole,
    )

place_short : (m t : ℕ) (problem : List Pattern) (tuple : List ℕ) → IsTuple m t problem tuple → is_long problem ≡ false
    → (n : ℕ) × (slice_get (tuples_below m t problem) n ≡ Some tuple)
place_short m t problem tuple is short =
    let size = is.size in
    let one = short_extra problem short in
    let place = window_place (2 * t + 1 + 1) m (take (2 * t + 1 + 1) tuple) is.front in (
      place.0,
      ap (λ list. slice_get list place.0) (short_tuples m t problem short) ∙ place.1
          ∙ ap Some (take_all (2 * t + 1 + 1) tuple (omega arith)),
    )

pub tuple_place : (m t : ℕ) (problem : List Pattern) (tuple : List ℕ) → IsTuple m t problem tuple
    → (n : ℕ) × (slice_get (tuples_below m t problem) n ≡ Some tuple)
tuple_place m t problem tuple is =
    by_test ((n : ℕ) × (slice_get (tuples_below m t problem) n ≡ Some tuple)) (is_long problem)
    (place_long m t problem tuple is)
    (place_short m t problem tuple is)

-- the number of a tuple, cut into that of its first 2t+2 identifiers and the position of its last one
pub record Cut (m t : ℕ) (number each : ℕ) : Type 0 where
  pub some : 0 < each
  pub front : number / each < length (windows (2 * t + 1 + 1) m)
  pub rest : number % each < m - (2 * t + 1)
  pub whole : number ≡ number / each * (m - (2 * t + 1)) + number % each
  pub each_is : each ≡ m - (2 * t + 1)

none_left : (count each : ℕ) → each ≡ 0 → count * each ≡ 0
none_left count each e = ap (λ n. count * n) e ∙ (omega arith)

pub cut : (m t number each : ℕ) (problem : List Pattern) → is_long problem ≡ true → each ≡ per_pair m t problem
    → number < length (tuples_below m t problem) → Cut m t number each
cut m t number each problem long is below =
    let count : ℕ = length (windows (2 * t + 1 + 1) m) in
    let total : number < count * each = omega (arith, below, tuple_count m t problem, ap (λ n. count * n) is) in
    let nonzero : 0 < each = let no : ¬ (each ≡ 0) = λ e. omega (arith, none_left count each e, total) in omega arith in
    let whole : number / each * each + number % each ≡ number = div-add-mod' number each in
    let no : ¬ (count ≤ number / each) = λ h. let more : count * each ≤ number / each * each =
    mul-le count each (number / each) each h (omega arith) in omega (arith, more, whole, total) in
    let each_is : each ≡ m - (2 * t + 1) = is ∙ long_each m t problem long in
    record {
      some = nonzero;
      front = omega arith;
      rest = omega (arith, mod_below number each nonzero, each_is);
      whole = sym whole ∙ ap (λ n. number / each * n + number % each) each_is;
      each_is = each_is;
    }

-- the last 2t+2 identifiers have a number
pub back_below : (m t number each w : ℕ) → Cut m t number each → w < length (windows (2 * t + 1) m)
    → w * each + number % each < length (windows (2 * t + 1 + 1) m)
back_below m t number each w own lt =
    let all : length (windows (2 * t + 1 + 1) m) ≡ length (windows (2 * t + 1) m) * each =
    windows_more (2 * t + 1) m ∙ ap (λ n. length (windows (2 * t + 1) m) * n) (sym own.each_is) in
    grind (arith, all, own.rest, own.each_is, rows_below w each (length (windows (2 * t + 1) m)) lt)
  where
    rows_below : (a c b : ℕ) → a < b → a * c + c ≤ b * c
    rows_below a c b lt = grind arith

-- the first identifier, and the last 2t+2 over the others
pub written : (m t number each w : ℕ) (problem : List Pattern) (pair back : List ℕ) → is_long problem ≡ true
    → Cut m t number each
    → slice_get (windows (2 * t + 1 + 1) m) (number / each) ≡ Some pair
    → slice_get (windows (2 * t + 1) m) w ≡ Some (drop 1 pair)
    → slice_get (windows (2 * t + 1 + 1) m) (w * each + number % each) ≡ Some back
    → slice_get (tuples_below m t problem) number ≡ Some (take 1 pair ++ back)
written m t number each w problem pair back long own front middle end =
    let k : ℕ = 2 * t + 1 in
    let r : ℕ = number % each in
    let window = windows_all (k + 1) m (number / each) pair front in
    let free : ℕ = get_or (unused m (drop 1 pair)) r 0 in
    let last : slice_get (unused m (drop 1 pair)) r ≡ Some free =
    slice_get-get_or (unused m (drop 1 pair)) r 0
    (omega (arith, own.rest, unused_left (back_window k m pair window))) in
    let longer = window_from_parts k m w r free (drop 1 pair) middle last in
    let there : slice_get (windows (k + 1) m) (w * each + r) ≡ Some (drop 1 pair ++ free ∷ []) =
    (λ i. slice_get (windows (add-one k i) m) (w * own.each_is i + r)) ∙ longer in
    let same : drop 1 pair ++ free ∷ [] ≡ back = same_Some (drop 1 pair ++ free ∷ []) back (sym there ∙ end) in
    ap (slice_get (tuples_below m t problem)) own.whole
    ∙ tuple_from m t (number / each) r free problem pair long front last
    ∙ ap Some (ap (λ list. list ++ free ∷ []) (sym (take-append-drop 1 pair))
    ∙ append_assoc (take 1 pair) (drop 1 pair) (free ∷ [])
    ∙ ap (λ list. take 1 pair ++ list) same)

-- the identifiers from the second to the last of the first 2t+2
pub middle_is : (len : ℕ) (pair rest : List ℕ) → length pair ≡ len → 1 ≤ len
    → take (len - 1) (drop 1 (pair ++ rest)) ≡ drop 1 pair
middle_is len pair rest size some =
    ap (take (len - 1)) (drop-append-le 1 pair rest (omega arith))
    ∙ take_at (drop 1 pair) rest (len - 1) (omega (arith, length-drop 1 pair))

-- and their number
pub middle_at : (m t rounds len number same : ℕ) (pair rest : List ℕ) → IsWindow (2 * t + 1 + 1) m pair → rounds ≡ t
    → len ≡ 2 * t + 2 → same ≡ number
    → slice_get (windows (2 * rounds + 1) m) number ≡ Some (take (len - 1) (drop 1 (pair ++ rest)))
    → slice_get (windows (2 * t + 1) m) same ≡ Some (drop 1 pair)
middle_at m t rounds len number same pair rest window level long is at' =
    let size = window.size in
    (λ i. slice_get (windows (2 * sym level i + 1) m) (is i)) ∙ at'
    ∙ ap Some (middle_is len pair rest (omega arith) (omega arith))

-- cells after the first, written over all there are
pub over_rest : (pair rest new : List ℕ) → 1 ≤ length pair
    → put_mid 1 (length (pair ++ rest) - 1) (pair ++ rest) new ≡ take 1 pair ++ new
over_rest pair rest new some =
    let all : List ℕ = pair ++ rest in
    let size = length-append pair rest in
    ap (λ list. list ++ (new ++ drop (length all - 1) (drop 1 all))) (take-append-le 1 pair rest some)
    ∙ ap (λ list. take 1 pair ++ (new ++ list))
    (drop_all (length all - 1) (drop 1 all) (omega (arith, length-drop 1 all)))
    ∙ ap (λ list. take 1 pair ++ list) (append-nil new)
