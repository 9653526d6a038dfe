-- Counts decide whether a tuple that begins with a window has a third window that is too close.
use Rattle.std.proofs.Common.{◌≡◌, ◌≢◌, ℕ, ◌+◌, ◌*◌, ◌<◌, ◌≤◌, ◌⊎◌, Bool, true, false, not, ◌&&◌, nat_lt, List, [], ◌∷◌}
use Rattle.std.proofs.Common.{◌++◌, get_or, drop, slice_get, count_by, Some, ap, ◌∙◌, arith, refl, inl, inr, ⊎_elim}
use Rattle.std.specs.Int.{abs_diff}
use Rattle.std.specs.List.{range_with_len}
use Rattle.std.proofs.lemmas.Bool.{and_parts, eq-eqb, lt-ltb, ltb-true}
use Rattle.std.proofs.lemmas.Bool.Decides.{nat_tests}
use Rattle.std.proofs.lemmas.Option.{slice_get-get_or, get_or_from_slice_get}
use Rattle.win_index.proofs.Windows.{windows_all, one_number}
use Rattle.channel_tables.specs.Tables.{ChannelTable, windows_of}
use Rattle.nbhd_check.specs.Counts.{shared_len, is_held, held_count, IsFamily}
use Rattle.nbhd_check.specs.Buckets.{BeginsFarTuple}
use Rattle.nbhd_check.proofs.Ends.{by_last}
use Rattle.nbhd_check.proofs.FarFree.{far_third, third_in_family}
use Rattle.nbhd_check.proofs.Included.{none_without}

-- every window holds the number of identifiers
held_always : (t : ChannelTable) (passes : Bool) (k : ℕ) → passes && is_held t t.ids k ≡ passes
held_always t passes k = rw (eq-eqb t.ids t.ids refl) (and_true passes)
  where
    and_true : (x : Bool) → x && true ≡ x
    and_true true = refl
    and_true false = refl

-- an identifier that a window does not hold as one of its last two
not_held : (t : ChannelTable) (x k : ℕ) (window : List ℕ) → slice_get (windows_of t) k ≡ Some window → x ≢ t.ids
    → x ≢ get_or window (shared_len t) 0 → x ≢ get_or window (shared_len t + 1) 0 → is_held t x k ≡ false
not_held t x k window item below one two =
    rw (get_or_from_slice_get (windows_of t) k window [] item) (grind (arith, nat_tests))

-- the last two identifiers of a window that holds a and b are these
both_held : (t : ChannelTable) (a b k : ℕ) (window : List ℕ) → slice_get (windows_of t) k ≡ Some window → a ≢ t.ids
    → b ≢ t.ids → a ≢ b
    → is_held t a k ≡ true → is_held t b k ≡ true
    → ((get_or window (shared_len t) 0 ≡ a) × (get_or window (shared_len t + 1) 0 ≡ b)) ⊎ ((get_or window (shared_len t) 0 ≡ b) × (get_or window (shared_len t + 1) 0 ≡ a))
both_held t a b k window item in_a in_b other has_a has_b =
    let own = get_or_from_slice_get (windows_of t) k window [] item in
    let held_a = rw own at has_a in
    let held_b = rw own at has_b in
    grind (arith, nat_tests, held_a, held_b)

-- a window of the family that holds two identifiers has them in one of the two orders
two_orders :
    (t : ChannelTable) (z : List ℕ) (a b first n i j : ℕ) → 1 ≤ t.rounds → IsFamily t z first n → a ≢ t.ids
    → b ≢ t.ids → a ≢ b
    → slice_get (windows_of t) i ≡ Some (z ++ a ∷ b ∷ []) → slice_get (windows_of t) j ≡ Some (z ++ b ∷ a ∷ [])
    → (k : ℕ) → first ≤ k → k < first + n → is_held t a k ≡ true → is_held t b k ≡ true → (k ≡ i) ⊎ (k ≡ j)
two_orders t z a b first n i j some family in_a in_b other at_i at_j k from to has_a has_b =
    let within = family.within in
    let window = get_or (windows_of t) k [] in
    let item = slice_get-get_or (windows_of t) k [] (omega arith) in
    let is = windows_all (2 * t.rounds + 1) t.ids k window item in
    let size = is.size in
    let one : ℕ = get_or window (shared_len t) 0 in
    let two : ℕ = get_or window (shared_len t + 1) 0 in
    let parted : window ≡ z ++ one ∷ two ∷ [] =
    by_last (shared_len t) window (omega arith)
    ∙ ap (λ front. front ++ one ∷ two ∷ []) (family.begins k window from to item) in
    let number : (l x y : ℕ) → (one ≡ x) × (two ≡ y) → slice_get (windows_of t) l ≡ Some (z ++ x ∷ y ∷ [])
    → k ≡ l = λ l x y are at'.
    one_number (2 * t.rounds + 1) t.ids k l (z ++ x ∷ y ∷ []) (item
    ∙ ap Some (parted ∙ (λ q. z ++ are.0 q ∷ are.1 q ∷ []))) at' in
    ⊎_elim
    (λ (are : (one ≡ a) × (two ≡ b)). let out : (k ≡ i) ⊎ (k ≡ j) = inl (number i a b are at_i) in out)
    (λ (are : (one ≡ b) × (two ≡ a)). let out : (k ≡ i) ⊎ (k ≡ j) = inr (number j b a are at_j) in out)
    (both_held t a b k window item in_a in_b other has_a has_b)

-- The number of third windows that are close to the channel and hold neither of the window's first two identifiers:
-- all that are close, less those that hold the one and those that hold the other, plus those with both, which are at
-- most two.
pub none_far :
    (t : ChannelTable) (distance number channel first n i j most_i most_j : ℕ) (window : List ℕ) → 1 ≤ t.rounds
    → slice_get (windows_of t) number ≡ Some window → channel ≡ get_or t.entries number 0
    → IsFamily t (drop 2 window) first n
    → slice_get (windows_of t) i ≡ Some (drop 2 window ++ get_or window 0 0 ∷ get_or window 1 0 ∷ [])
    → slice_get (windows_of t) j ≡ Some (drop 2 window ++ get_or window 1 0 ∷ get_or window 0 0 ∷ [])
    → (abs_diff channel (get_or t.entries i 0) < distance → 1 ≤ most_i)
    → (abs_diff channel (get_or t.entries j 0) < distance → 1 ≤ most_j)
    → (let count = λ (x : ℕ). held_count t first n x (λ other. nat_lt (abs_diff channel other) distance) in
    count t.ids + (most_i + most_j) ≤ count (get_or window 0 0) + count (get_or window 1 0))
    → ¬ BeginsFarTuple t distance window
none_far t distance number channel first n i j most_i most_j window some item channel_is family at_i at_j of_i of_j few far =
    let a : ℕ = get_or window 0 0 in
    let b : ℕ = get_or window 1 0 in
    let is = windows_all (2 * t.rounds + 1) t.ids number window item in
    let size = is.size in
    let own = far_third t distance window some far in
    let found = third_in_family t distance number first n window item family own in
    let k : ℕ = found.0 in
    let close = rw (← channel_is) at found.4 in
    let passes : ℕ → Bool = λ l. nat_lt (abs_diff channel (get_or t.entries l 0)) distance in
    let in_a : a ≢ t.ids = λ e. omega (arith, is.below 0 0 (omega arith), e) in
    let in_b : b ≢ t.ids = λ e. omega (arith, is.below 1 0 (omega arith), e) in
    let free = λ (l : ℕ) (lt : l < 2) (below : get_or window l 0 ≢ t.ids).
    not_held t (get_or window l 0) k own.third found.3 below (own.apart l (shared_len t) lt (omega arith))
    (own.apart l (shared_len t + 1) lt (omega arith)) in
    let both : passes k && (not (is_held t a k) && not (is_held t b k)) ≡ true =
    rw (lt-ltb (abs_diff channel (get_or t.entries k 0)) distance close, free 0 (omega arith) in_a, free 1 (omega arith) in_b) refl in
    let all : count_by (λ l. passes l && is_held t t.ids l) (range_with_len first n)
    ≡ count_by passes (range_with_len first n) =
    ap (λ f. count_by f (range_with_len first n)) (λ q l. held_always t (passes l) l q) in
    let passed = λ (l : ℕ) (is : passes l && (is_held t a l && is_held t b l) ≡ true). and_parts (passes l)
    (is_held t a l && is_held t b l) is in
    none_without passes (is_held t a) (is_held t b) first n i j most_i most_j k
    (λ l from to is'.
    let held = and_parts (is_held t a l) (is_held t b l) (passed l is').1 in
    two_orders t (drop 2 window) a b first n i j some family in_a in_b (is.distinct 0 1 0 (omega arith) (omega arith)) at_i at_j l from to held.0 held.1)
    (λ is'. of_i (ltb-true (abs_diff channel (get_or t.entries i 0)) distance (passed i is').0))
    (λ is'. of_j (ltb-true (abs_diff channel (get_or t.entries j 0)) distance (passed j is').0))
    (rw (← all) few) found.1 found.2 both
