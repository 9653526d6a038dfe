-- The numbers below a bound that a list of distinct numbers lacks.
use Rattle.std.proofs.Common.{◌≡◌, ◌≢◌, ℕ, zero, suc, ◌+◌, ◌-◌, ◌<◌, ◌≤◌, Bool, true, false, not, cond, nat_lt, eqb}
use Rattle.std.proofs.Common.{List, [], ◌∷◌, ◌++◌, length, get_or, take, drop, count_by, filter, slice_get, Some, All}
use Rattle.std.proofs.Common.{AllPairs, refl, sym, ap, ◌∙◌, arith, length-append}
use Rattle.std.proofs.lemmas.Bool.{lt-ltb, le-ltb, eq-eqb, ne_eqb, false≢true, not_from_false, not-true}
use Rattle.std.proofs.lemmas.Grind.{get_or_default_zero}
use Rattle.std.proofs.lemmas.List.{length-take, length-drop, get_or-take, get_or-drop}
use Rattle.std.proofs.lemmas.List.Elements.{All-head, All-tail}
use Rattle.std.proofs.lemmas.List.Folds.{list_any_none, list_any_at}
use Rattle.std.proofs.lemmas.List.Quantifiers.{all_pairs_push}
use Rattle.std.proofs.lemmas.List.FromFn.{length-range_with_len}
use Rattle.std.proofs.lemmas.List.Sums.{count_by-le-length, length-filter, sum_by-cons, sum_by_push}
use Rattle.std.proofs.lemmas.Option.{slice_get-get_or, slice_get_within}
use Rattle.std.proofs.lemmas.Bool.Decides.{nat_tests}
use Rattle.std.specs.List.{range_with_len}
use Rattle.std.specs.Prelude.{◌||◌}
use Rattle.win_index.specs.Windows.{is_used, unused}
use Rattle.win_index.proofs.Kept.{kept, kept_is, kept_split, kept_suc, kept_own, kept_rises}

-- whether a list lacks a number
abbrev pub lacks : List ℕ → ℕ → Bool
lacks list x = not (is_used list x)

-- the number of elements of the list below x
abbrev rank : List ℕ → ℕ → ℕ
rank list x = count_by (λ y. nat_lt y x) list

rank_cons : (y : ℕ) (list : List ℕ) (x : ℕ) → rank (y ∷ list) x ≡ cond (nat_lt y x) 1 0 + rank list x
rank_cons y list x = sum_by-cons (λ z. cond (nat_lt z x) 1 0) y list

abbrev pub IsDistinct : List ℕ → Type 0
IsDistinct list = AllPairs (λ a b. a ≢ b) list

pub distinct_tail : (y : ℕ) (list : List ℕ) → IsDistinct (y ∷ list) → IsDistinct list
distinct_tail y list h = λ i j d lt within. h (suc i) (suc j) d (omega arith) (omega arith)

pub distinct_take : (n : ℕ) (list : List ℕ) → IsDistinct list → IsDistinct (take n list)
distinct_take n list h = λ i j d lt within.
    let size = length-take n list in
    let near : j < n = omega arith in
    let nearer : i < n = omega arith in
    rw (get_or-take n list i d nearer, get_or-take n list j d near) (h i j d lt (omega arith))

pub distinct_drop : (n : ℕ) (list : List ℕ) → IsDistinct list → IsDistinct (drop n list)
distinct_drop n list h = λ i j d lt within.
    rw (get_or-drop n list i d, get_or-drop n list j d)
    (h (n + i) (n + j) d (omega arith) (omega (arith, length-drop n list)))

pub distinct_head : (y : ℕ) (list : List ℕ) → IsDistinct (y ∷ list) → is_used list y ≡ false
distinct_head y list h =
    list_any_none (λ z. eqb z y) list (λ k d lt. ne_eqb _ _ (λ e. h 0 (suc k) d (omega arith) (omega arith) (sym e)))

-- a number that a list lacks differs from each of its numbers
pub lacks_differs : (list : List ℕ) (x : ℕ) → is_used list x ≡ false → (k d : ℕ) → k < length list → get_or list k d ≢ x
lacks_differs list x free k d lt e =
    false≢true (sym free ∙ list_any_at (λ z. eqb z x) list k d lt (eq-eqb (get_or list k d) x e))

pub lacks_from_differs : (list : List ℕ) (x : ℕ) → ((k : ℕ) → k < length list → get_or list k 0 ≢ x) →
    is_used list x ≡ false
lacks_from_differs list x differs =
    list_any_none (λ z. eqb z x) list
    (λ k d lt. ne_eqb _ _ (λ e. differs k lt (sym (get_or_default_zero list k d lt) ∙ e)))

-- a longer list lacks what its first number is not and its rest lacks
pub lacks_both : (y x : ℕ) (list : List ℕ) → is_used (y ∷ list) x ≡ false → (y ≢ x) × (is_used list x ≡ false)
lacks_both y x list free = (
  lacks_differs (y ∷ list) x free 0 0 (omega arith),
  lacks_from_differs list x (λ k lt. lacks_differs (y ∷ list) x free (suc k) 0 (omega arith)),
)

rank_zero : (list : List ℕ) → rank list 0 ≡ 0
rank_zero [] = refl
rank_zero (y ∷ list) =
    let none : nat_lt y 0 ≡ false = le-ltb y 0 (omega arith) in
    rw none (rank_zero list)

rank_all : (list : List ℕ) (m : ℕ) → All (λ x. x < m) list → rank list m ≡ length list
rank_all [] m below = refl
rank_all (y ∷ list) m below =
    let lt : nat_lt y m ≡ true = lt-ltb y m (All-head (λ x. x < m) y list below) in
    let rest = rank_all list m (All-tail (λ x. x < m) y list below) in
    rw (rank_cons y list m, lt) (omega (arith, rest))

-- one more is counted if it is in the list
count_step :
    (x y low high : ℕ) (used : Bool) → high ≡ low + cond used 1 0 → (y ≡ x → used ≡ false)
    → cond (nat_lt y (suc x)) 1 0 + high ≡ cond (nat_lt y x) 1 0 + low + cond (eqb y x || used) 1 0
count_step x y low high used more once = grind (arith, nat_tests)

rank_suc : (list : List ℕ) (x : ℕ) → IsDistinct list → rank list (suc x) ≡ rank list x + cond (is_used list x) 1 0
rank_suc [] x distinct = refl
rank_suc (y ∷ list) x distinct =
    rw (rank_cons y list (suc x), rank_cons y list x)
    (count_step x y (rank list x) (rank list (suc x)) (is_used list x)
    (rank_suc list x (distinct_tail y list distinct)) (λ same. rw same at (distinct_head y list distinct)))

length_single : (b : Bool) (x : ℕ) → length (cond (not b) (x ∷ []) []) + cond b 1 0 ≡ 1
length_single true x = refl
length_single false x = refl

-- the x numbers below x are those that the list lacks and those in the list
length-unused_rank : (list : List ℕ) (x : ℕ) → IsDistinct list → length (unused x list) + rank list x ≡ x
length-unused_rank list zero distinct = omega (arith, rank_zero list)
length-unused_rank list (suc x) distinct =
    let fewer = length-unused_rank list x distinct in
    let one : List ℕ = cond (lacks list x) (x ∷ []) [] in
    omega (
      arith,
      ap length (kept_suc (lacks list) x),
      length-append (kept (lacks list) x) one,
      fewer,
      rank_suc list x distinct,
      length_single (is_used list x) x,
    )

-- of m numbers a list of distinct ones below m lacks the others
pub length-unused : (list : List ℕ) (m : ℕ) → IsDistinct list → All (λ x. x < m) list →
    length (unused m list) + length list ≡ m
length-unused list m distinct below = omega (arith, length-unused_rank list m distinct, rank_all list m below)

-- a number that the list lacks comes after those below it
pub unused_at : (list : List ℕ) (m x : ℕ) → x < m → is_used list x ≡ false →
    slice_get (unused m list) (length (unused x list)) ≡ Some x
unused_at list m x lt free = kept_own (lacks list) x m lt (not_from_false (is_used list x) free)

-- the number of values below x that the list lacks is x less the number of its elements below x
pub unused_below : (list : List ℕ) (x : ℕ) → IsDistinct list →
    length (unused x list) + count_by (λ y. nat_lt y x) list ≡ x
unused_below list x distinct = length-unused_rank list x distinct

-- at most all numbers of a range pass
few_pass : (p : ℕ → Bool) (a n : ℕ) → length (filter p (range_with_len a n)) ≤ n
few_pass p a n =
    let range = range_with_len a n in
    omega (arith, length-filter p range, count_by-le-length p range, length-range_with_len a n)

-- a list lacks at most x numbers below x
pub unused_at_most : (list : List ℕ) (x : ℕ) → length (unused x list) ≤ x
unused_at_most list x = few_pass (lacks list) 0 x

-- up to a larger number the list lacks at most their difference more
pub unused_few : (list : List ℕ) (x more : ℕ) → length (unused (x + more) list) ≤ length (unused x list) + more
unused_few list x more =
    let rest : List ℕ = filter (lacks list) (range_with_len x (x + more - x)) in
    omega (
      arith,
      ap length (kept_split (lacks list) x (x + more) (omega arith)),
      length-append (unused x list) rest,
      few_pass (lacks list) x (x + more - x),
    )

-- a number is below m if the list lacks fewer numbers below it than below m
pub unused_below_bound : (list : List ℕ) (x m : ℕ) → length (unused x list) < length (unused m list) → x < m
unused_below_bound list x m fewer = grind (arith, kept_rises (lacks list) m x)

-- a number that a list lacks is counted below each larger one
pub counted : (list : List ℕ) (x y : ℕ) → is_used list x ≡ false → x < y →
    length (unused x list) < length (unused y list)
counted list x y free lt = slice_get_within (unused y list) (length (unused x list)) x (unused_at list y x lt free)

-- two numbers that a list lacks have different positions
pub apart : (list : List ℕ) (x y : ℕ) → is_used list x ≡ false → is_used list y ≡ false → x ≢ y →
    length (unused x list) ≢ length (unused y list)
apart list x y x_free y_free differs = grind (arith, counted list x y x_free, counted list y x y_free)

-- a number that a list lacks is in the order of the positions
pub same_order : (list : List ℕ) (x y : ℕ) → is_used list x ≡ false →
    nat_lt x y ≡ nat_lt (length (unused x list)) (length (unused y list))
same_order list x y free = grind (arith, nat_tests, counted list x y free, kept_rises (lacks list) y x)

-- the only number below x that is not below x - 1
between : (z x low high : ℕ) → z < x → (z < x - 1 → low < high) → high ≤ low → z ≡ x - 1
between z x low high below rises few = grind arith

-- the number before x has this position if the list lacks one more number below x than the position, and no more below
-- x - 1
pub unused_before :
    (list : List ℕ) (m place x : ℕ) → 1 ≤ x → x ≤ m → length (unused (x - 1) list) ≤ place
    → length (unused x list) ≡ place + 1
    → slice_get (unused m list) place ≡ Some (x - 1)
unused_before list m place x some le before own =
    let z : ℕ = get_or (unused x list) place 0 in
    let kept = kept_is (lacks list) x place z (slice_get-get_or (unused x list) place 0 (omega (arith, own))) in
    let free = not-true (is_used list z) kept.passes in
    let last : z ≡ x - 1 = between z x (length (unused z list)) _ kept.below (counted list z (x - 1) free)
    (omega (arith, kept.before, before)) in
    rw (kept.before, last) at (unused_at list m z (omega (arith, kept.below)) free)

-- a step of as many numbers as are missing stays within m if the list lacks more numbers below m than the position, and
-- finds at most that many, the last one aside
pub unused_reached :
    (list : List ℕ) (m place x more : ℕ) → 1 ≤ more → length (unused x list) + more ≡ place + 1
    → place < length (unused m list) → (length (unused (x + more - 1) list) ≤ place) × (x + more ≤ m)
unused_reached list m place x more some sum inside =
    let before : x + (more - 1) ≡ x + more - 1 = omega arith in
    let step = rw before at (unused_few list x (more - 1)) in
    let few : length (unused (x + more - 1) list) ≤ place = omega (arith, sum, step) in
    (few, omega (arith, unused_below_bound list (x + more - 1) m (omega (arith, few, inside))))

-- a number in front of a list is one that it no longer lacks
pub unused_in_front :
    (y x : ℕ) (list : List ℕ) → IsDistinct (y ∷ list) →
    length (unused x (y ∷ list)) + cond (nat_lt y x) 1 0 ≡ length (unused x list)
unused_in_front y x list distinct =
    let longer = length-unused_rank (y ∷ list) x distinct in
    omega (arith, longer, rank_cons y list x, length-unused_rank list x (distinct_tail y list distinct))

-- a number at the end of a list is one that it no longer lacks
pub unused_at_end :
    (y x : ℕ) (list : List ℕ) → IsDistinct list → is_used list x ≡ false →
    length (unused y (list ++ x ∷ [])) + cond (nat_lt x y) 1 0 ≡ length (unused y list)
unused_at_end y x list distinct free =
    let longer = length-unused_rank (list ++ x ∷ []) y
    (all_pairs_push (λ a b. a ≢ b) list x distinct (lacks_differs list x free)) in
    omega (arith, longer, length-unused_rank list y distinct, sum_by_push (λ z. cond (nat_lt z y) 1 0) list x)

-- the empty list lacks each number
pub unused_all : (x : ℕ) → length (unused x []) ≡ x
unused_all x = omega (arith, length-unused_rank [] x (λ i j d lt within. absurd (omega (arith, within))))
