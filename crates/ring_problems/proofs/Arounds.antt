-- Tuples around the places of rings.
use Rattle.std.proofs.Common.{◌≡◌, ◌≢◌, ◌==◌, ℕ, ◌+◌, ◌-◌, ◌*◌, ◌%◌, ◌<◌, ◌≤◌, Bool, cond, List, ◌++◌, length, get_or}
use Rattle.std.proofs.Common.{set, take, drop, length-append, length-set, refl, sym, ap, ◌∙◌, subst, arith}
use Rattle.std.proofs.Common.{⊎_elim, get_or-drop}
use Rattle.std.proofs.Math.Nat.{add-mod_left, mod-eq_of_lt}
use Rattle.std.proofs.lemmas.Bool.{eqb-true, eq-eqb, false≢true, cases_lt}
use Rattle.std.proofs.lemmas.Grind.{same_number_lists, get_or_default_zero}
use Rattle.std.proofs.lemmas.List.{get_or-take, drop-drop, get_or_append_left, get_or-set_other, get_or-set_same}
use Rattle.std.proofs.lemmas.List.{take-set, take_at, take_all}
use Rattle.win_index.specs.Ring.{IsRing}
use Rattle.win_index.specs.Arcs.{arc, window_around, part_at}
use Rattle.win_index.specs.Windows.{IsWindow}
use Rattle.win_index.proofs.Windows.{length_arc, item_of_arc, take-arc, drop-arc, arc_window, slice_window, window_within, part_of_front}
use Rattle.ring_problems.specs.declared.pattern.Pattern.{Pattern}
use Rattle.ring_problems.specs.Patterns.{extra}
use Rattle.ring_problems.specs.TupleLists.{IsTuple, ring_of}
use Rattle.ring_problems.proofs.Matching.{extra_range}
use Rattle.ring_problems.proofs.TupleParts.{by_test}

-- the windows of an arc
arc_part : (t extra start step : ℕ) (ring : List ℕ) → step ≤ extra
    → part_at t step (arc ring start (2 * t + 1 + extra)) ≡ arc ring (start + step) (2 * t + 1)
arc_part t extra start step ring le =
    ap (take (2 * t + 1)) (drop-arc ring start (2 * t + 1 + extra) step (omega arith))
    ∙ take-arc ring (start + step) (2 * t + 1 + extra - step) (2 * t + 1) (omega arith)

-- the identifiers around a place of a ring are a tuple
pub around_tuple : (m t place : ℕ) (problem : List Pattern) (ring : List ℕ) → IsRing m t ring
    → let list = arc ring (place + length ring - t) (2 * t + 1 + extra problem) in
    IsTuple m t problem list
    × ((step : ℕ) → step ≤ extra problem → part_at t step list ≡ window_around ring t (place + step))
around_tuple m t place problem ring is =
    let long = is.long in
    let range = extra_range problem in
    let start = place + length ring - t in
    let len = 2 * t + 1 + extra problem in
    let left : len - (extra problem - 1) ≡ 2 * t + 1 + 1 = omega (arith, range.0) in
    let front = take-arc ring start len (2 * t + 1 + 1) (omega (arith, range.0)) in
    let back = drop-arc ring start len (extra problem - 1) (omega arith)
    ∙ ap (arc ring (start + (extra problem - 1))) left in (
      record {
        size = length_arc ring start len;
        front = subst (IsWindow (2 * t + 1 + 1) m) (sym front)
            (arc_window m t start (2 * t + 1 + 1) ring is (omega arith));
        back =
            subst (IsWindow (2 * t + 1 + 1) m) (sym back)
            (arc_window m t (start + (extra problem - 1)) (2 * t + 1 + 1) ring is (omega arith));
      },
      λ step le.
          let later : start + step ≡ place + step + length ring - t = omega arith in
          arc_part t (extra problem) start step ring le ∙ ap (λ i. arc ring i (2 * t + 1)) later,
    )

-- a tuple that goes once around a ring, and maybe one place further
record GoesAround (m t : ℕ) (tuple ring : List ℕ) : Type 0 where
  is : IsRing m t ring
  long : length ring ≤ length tuple
  further : length tuple ≤ length ring + 1
  same : (i : ℕ) → i < length ring → get_or ring i 0 ≡ get_or tuple i 0
  last : length ring < length tuple → get_or tuple (length ring) 0 ≡ get_or tuple 0 0

around_arc : (m t : ℕ) (tuple ring : List ℕ) → GoesAround m t tuple ring → tuple ≡ arc ring (length ring) (length tuple)
around_arc m t tuple ring around =
    let long = around.is.long in
    let n : ℕ = length ring in
    let size = length_arc ring n (length tuple) in
    same_number_lists tuple (arc ring n (length tuple)) (omega arith) (λ i within.
    ⊎_elim
    (λ (lt : i < n).
    sym (item_of_arc ring n (length tuple) i 0 within
    ∙ ap (λ k. get_or ring k 0) (add-mod_left n i ∙ mod-eq_of_lt lt)
    ∙ around.same i lt))
    (λ (ge : n ≤ i).
    let more = around.further in
    let at_end : i ≡ n + 0 = omega arith in
    let some : 0 < n = omega arith in
    let turn : (n + i) % n ≡ 0 = add-mod_left n i ∙ ap (λ k. k % n) at_end ∙ add-mod_left n 0 ∙ mod-eq_of_lt some in
    let whole : i ≡ n = omega arith in
    ap (λ k. get_or tuple k 0) whole
    ∙ around.last (omega arith)
    ∙ sym (item_of_arc ring n (length tuple) i 0 within ∙ ap (λ k. get_or ring k 0) turn ∙ around.same 0 some))
    (cases_lt i n))

-- where the last identifier is the first one again
closed : (m t : ℕ) (problem : List Pattern) (tuple : List ℕ) → IsTuple m t problem tuple
    → get_or tuple (length tuple - 1) 0 ≡ get_or tuple 0 0 → GoesAround m t tuple (take (length tuple - 1) tuple)
closed m t problem tuple is same =
    let size = is.size in
    let range = extra_range problem in
    let k : ℕ = 2 * t + 1 + 1 in
    let front = is.front in
    let front_size = front.size in
    let short : ¬ (length tuple ≡ k) = λ e.
    front.distinct 0 (k - 1) 0 (omega arith) (omega arith)
    (get_or-take k tuple 0 0 (omega arith) ∙ sym same
    ∙ ap (λ n. get_or tuple n 0) (let last : length tuple - 1 ≡ k - 1 = omega arith in last)
    ∙ sym (get_or-take k tuple (k - 1) 0 (omega arith))) in
    let len : k ≡ length tuple - 1 = omega (arith, range.0, range.1) in
    let ring : List ℕ = take (length tuple - 1) tuple in
    let window : IsWindow k m ring = subst (λ n. IsWindow k m (take n tuple)) len front in
    let ring_size = window.size in
    record {
      is = record { long = omega arith; short = omega (arith, window_within k m ring window); below = window.below; distinct = window.distinct };
      long = omega arith;
      further = omega arith;
      same = λ i lt. get_or-take (length tuple - 1) tuple i 0 (omega arith);
      last = λ more. ap (λ n. get_or tuple n 0) (let whole : length ring ≡ length tuple - 1 = omega arith in whole)
          ∙ same;
    }

-- and where it is not
distinct_ends : (m t : ℕ) (problem : List Pattern) (tuple : List ℕ) → IsTuple m t problem tuple
    → get_or tuple (length tuple - 1) 0 ≢ get_or tuple 0 0 → IsWindow (2 * t + 1 + extra problem) m tuple
distinct_ends m t problem tuple is differ =
    let size = is.size in
    let range = extra_range problem in
    let k : ℕ = 2 * t + 1 + 1 in
    let front = is.front in
    let back = is.back in
    let front_size = front.size in
    let back_size = back.size in
    let skip : ℕ = extra problem - 1 in
    record {
      size = size;
      below = λ i d within.
          ⊎_elim
          (λ (lt : i < k). subst (λ x. x < m) (get_or-take k tuple i d lt) (front.below i d (omega arith)))
          (λ (ge : k ≤ i).
          let at' : skip + (i - skip) ≡ i = omega (arith, range.1) in
          subst (λ x. x < m) (get_or-drop skip tuple (i - skip) d ∙ ap (λ n. get_or tuple n d) at')
          (back.below (i - skip) d (omega (arith, range.1))))
          (cases_lt i k);
      distinct = λ i j d less within e.
          ⊎_elim
          (λ (lt : j < k).
          front.distinct i j d less (omega arith) (get_or-take k tuple i d (omega arith) ∙ e
          ∙ sym (get_or-take k tuple j d lt)))
          (λ (ge : k ≤ j).
          ⊎_elim
          (λ (first : i < 1).
          let at_i : i ≡ 0 = omega arith in
          let at_j : j ≡ length tuple - 1 = omega (arith, range.1) in
          differ (sym (get_or_default_zero tuple (length tuple - 1) d (omega arith))
          ∙ ap (λ n. get_or tuple n d) (sym at_j) ∙ sym e
          ∙ ap (λ n. get_or tuple n d) at_i ∙ get_or_default_zero tuple 0 d (omega arith)))
          (λ (later : 1 ≤ i).
          let at_i : skip + (i - skip) ≡ i = omega (arith, range.1) in
          let at_j : skip + (j - skip) ≡ j = omega (arith, range.1) in
          back.distinct (i - skip) (j - skip) d (omega (arith, range.1)) (omega (arith, range.1))
          (get_or-drop skip tuple (i - skip) d ∙ ap (λ n. get_or tuple n d) at_i ∙ e
          ∙ sym (get_or-drop skip tuple (j - skip) d ∙ ap (λ n. get_or tuple n d) at_j)))
          (cases_lt i 1))
          (cases_lt j k);
    }

opened : (m t : ℕ) (problem : List Pattern) (tuple : List ℕ) → IsTuple m t problem tuple
    → get_or tuple (length tuple - 1) 0 ≢ get_or tuple 0 0 → GoesAround m t tuple tuple
opened m t problem tuple is differ =
    let size = is.size in
    let range = extra_range problem in
    let window = distinct_ends m t problem tuple is differ in
    let within = window_within (2 * t + 1 + extra problem) m tuple window in
    record {
      is = record { long = omega (arith, range.0); short = omega arith; below = window.below; distinct = window.distinct };
      long = omega arith;
      further = omega arith;
      same = λ i lt. refl;
      last = λ more. absurd (omega (arith, more));
    }

goes_around : (m t : ℕ) (problem : List Pattern) (tuple : List ℕ) → IsTuple m t problem tuple
    → GoesAround m t tuple (ring_of tuple)
goes_around m t problem tuple is =
    let last : ℕ = length tuple - 1 in
    let test : Bool = get_or tuple last 0 == get_or tuple 0 0 in
    by_test (GoesAround m t tuple (ring_of tuple)) test
    (λ e. subst (GoesAround m t tuple) (ap (λ b. cond b (take last tuple) tuple) (sym e))
    (closed m t problem tuple is (eqb-true (get_or tuple last 0) (get_or tuple 0 0) e)))
    (λ f. subst (GoesAround m t tuple) (ap (λ b. cond b (take last tuple) tuple) (sym f))
    (opened m t problem tuple is (λ e. false≢true (sym f ∙ eq-eqb (get_or tuple last 0) (get_or tuple 0 0) e))))

-- its windows are those around the places of the ring
parts_around : (m t extra : ℕ) (tuple ring : List ℕ) → GoesAround m t tuple ring → length tuple ≡ 2 * t + 1 + extra
    → (step : ℕ) → step ≤ extra → part_at t step tuple ≡ window_around ring t (t + step)
parts_around m t extra tuple ring around size step le =
    let list : tuple ≡ arc ring (length ring) (2 * t + 1 + extra) =
    around_arc m t tuple ring around ∙ ap (arc ring (length ring)) size in
    let later : length ring + step ≡ t + step + length ring - t = omega arith in
    ap (part_at t step) list ∙ arc_part t extra (length ring) step ring le ∙ ap (λ i. arc ring i (2 * t + 1)) later

-- the ring of a tuple
pub tuple_ring : (m t : ℕ) (problem : List Pattern) (tuple : List ℕ) → IsTuple m t problem tuple
    → IsRing m t (ring_of tuple)
    × ((step : ℕ) → step ≤ extra problem → part_at t step tuple ≡ window_around (ring_of tuple) t (t + step))
tuple_ring m t problem tuple is =
    let around = goes_around m t problem tuple is in
    (around.is, parts_around m t (extra problem) tuple (ring_of tuple) around is.size)

-- a tuple of 2t+2 identifiers and then its first one again
closed_again : (m t x : ℕ) (problem : List Pattern) (tuple rest : List ℕ) → IsTuple m t problem tuple
    → extra problem ≡ 1 → length rest ≡ 1
    → x ≡ get_or (tuple ++ rest) 0 0 → GoesAround m t (set (tuple ++ rest) (length tuple) x) (ring_of tuple)
closed_again m t x problem tuple rest is one few same =
    let around = goes_around m t problem tuple is in
    let size = is.size in
    let ring_is = around.is in
    let long = ring_is.long in
    let short = around.long in
    let all = length-append tuple rest in
    let list : List ℕ = tuple ++ rest in
    let out : List ℕ = set list (length tuple) x in
    let whole : length (ring_of tuple) ≡ length tuple = omega (arith, long, short, size, one) in
    let kept : (i : ℕ) → i < length tuple → get_or out i 0 ≡ get_or tuple i 0 = λ i lt.
    get_or-set_other list (length tuple) i x 0 (λ e. omega (arith, e)) ∙ get_or_append_left tuple rest 0 i lt in
    record {
      is = around.is;
      long = omega (arith, length-set list (length tuple) x, whole, all);
      further = omega (arith, length-set list (length tuple) x, whole, all, few);
      same = λ i lt. around.same i lt ∙ sym (kept i (omega (arith, whole, lt)));
      last = λ more.
          ap (λ n. get_or out n 0) whole ∙ get_or-set_same list (length tuple) x 0 (omega (arith, all, few)) ∙ same
          ∙ get_or_append_left tuple rest 0 0 (omega (arith, size)) ∙ sym (kept 0 (omega (arith, size)));
    }

-- the windows of the three places from place t on of a tuple's ring are in a list that begins with the tuple
pub record HasAround (m t : ℕ) (problem : List Pattern) (tuple out : List ℕ) : Type 0 where
  pub front : take (2 * t + 1 + extra problem) out ≡ tuple
  pub windows : (step : ℕ) → step ≤ 2 → part_at t step out ≡ window_around (ring_of tuple) t (t + step)

pub around_ring : (m t : ℕ) (problem : List Pattern) (tuple out : List ℕ) → IsTuple m t problem tuple
    → HasAround m t problem tuple out
    → IsRing m t (ring_of (take (2 * t + 1 + extra problem) out))
around_ring m t problem tuple out is own =
    subst (λ list. IsRing m t (ring_of list)) (sym own.front) (tuple_ring m t problem tuple is).0

pub around_windows : (m t step : ℕ) (problem : List Pattern) (tuple out : List ℕ)
    → HasAround m t problem tuple out → step ≤ 2
    → part_at t step out ≡ window_around (ring_of (take (2 * t + 1 + extra problem) out)) t (t + step)
around_windows m t step problem tuple out own le =
    own.windows step le ∙ ap (λ list. window_around (ring_of list) t (t + step)) (sym own.front)

pub around_open : (m t : ℕ) (problem : List Pattern) (tuple rest : List ℕ) → IsTuple m t problem tuple
    → length (tuple ++ rest) ≡ 2 * t + 3
    → 2 * t + 3 ≤ 2 * t + 1 + extra problem → HasAround m t problem tuple (tuple ++ rest)
around_open m t problem tuple rest is all long =
    let size = is.size in
    let range = extra_range problem in
    let two : extra problem ≡ 2 = omega (arith, range.1, long) in
    let front : take (2 * t + 1 + extra problem) (tuple ++ rest) ≡ tuple =
    take_at tuple rest (2 * t + 1 + extra problem) size in
    let whole : tuple ++ rest ≡ tuple =
    sym (take_all (2 * t + 1 + extra problem) (tuple ++ rest) (omega (arith, all, two))) ∙ front in
    record {
      front = front;
      windows = λ step le. ap (part_at t step) whole
          ∙ (tuple_ring m t problem tuple is).1 step (omega (arith, two, le));
    }

pub around_closed : (m t x len : ℕ) (problem : List Pattern) (tuple rest : List ℕ) → IsTuple m t problem tuple
    → length (tuple ++ rest) ≡ 2 * t + 3
    → len ≡ 2 * t + 1 + extra problem → len < 2 * t + 3 → x ≡ get_or (tuple ++ rest) 0 0
    → HasAround m t problem tuple (set (tuple ++ rest) len x)
around_closed m t x len problem tuple rest is all len_is short same =
    let size = is.size in
    let range = extra_range problem in
    let one : extra problem ≡ 1 = omega (arith, range.0, len_is, short) in
    let at' : len ≡ length tuple = omega (arith, len_is, size) in
    let list : List ℕ = tuple ++ rest in
    let around = closed_again m t x problem tuple rest is one
    (omega (arith, length-append tuple rest, all, size, one)) same in
    subst (λ n. HasAround m t problem tuple (set list n x)) (sym at') (record {
      front = ap (λ n. take n (set list (length tuple) x)) (sym size) ∙ take-set list (length tuple) x
          ∙ take_at tuple rest (length tuple) refl;
      windows = parts_around m t 2 (set list (length tuple) x) (ring_of tuple) around
          (omega (arith, length-set list (length tuple) x, all));
    })

-- the windows of a tuple
front_part : (m t step : ℕ) (problem : List Pattern) (tuple : List ℕ) → IsTuple m t problem tuple → step ≤ 1
    → IsWindow (2 * t + 1) m (part_at t step tuple)
front_part m t step problem tuple is le =
    let k : ℕ = 2 * t + 1 + 1 in
    subst (IsWindow (2 * t + 1) m) (part_of_front t step k tuple (omega arith))
    (slice_window m k step (2 * t + 1) (take k tuple) is.front (omega arith))

back_part : (m t : ℕ) (problem : List Pattern) (tuple : List ℕ) → IsTuple m t problem tuple → extra problem ≡ 2
    → IsWindow (2 * t + 1) m (part_at t 2 tuple)
back_part m t problem tuple is two =
    let k : ℕ = 2 * t + 1 + 1 in
    let back : IsWindow k m (drop 1 tuple) =
    subst (λ n. IsWindow k m (drop n tuple)) (let one : extra problem - 1 ≡ 1 = omega (arith, two) in one) is.back in
    subst (λ list. IsWindow (2 * t + 1) m (take (2 * t + 1) list)) (drop-drop 1 1 tuple)
    (slice_window m k 1 (2 * t + 1) (drop 1 tuple) back (omega arith))

pub tuple_window : (m t step : ℕ) (problem : List Pattern) (tuple : List ℕ) → IsTuple m t problem tuple
    → step ≤ extra problem
    → IsWindow (2 * t + 1) m (part_at t step tuple)
tuple_window m t step problem tuple is le =
    let range = extra_range problem in
    ⊎_elim (λ (lt : step < 2). front_part m t step problem tuple is (omega arith))
    (λ (ge : 2 ≤ step).
    let two : extra problem ≡ 2 = omega (arith, range.1) in
    let same : 2 ≡ step = omega (arith, range.1) in
    subst (λ n. IsWindow (2 * t + 1) m (part_at t n tuple)) same (back_part m t problem tuple is two))
    (cases_lt step 2)
