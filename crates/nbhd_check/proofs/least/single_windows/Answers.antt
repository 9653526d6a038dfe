use Rattle.std.proofs.Common.{Option, Some, None, ◌/◌, ◌-◌, ◌≡◌, ℕ, zero, suc, ◌+◌, ◌*◌, ◌<◌, ◌≤◌, max, List, [], ◌∷◌}
use Rattle.std.proofs.Common.{length, get_or, take, drop, subst, sym, ap, ◌∙◌, arith, refl, inl, ⊎_elim}
use Rattle.std.proofs.Math.Nat.{div-mul-le_self}
use Rattle.std.specs.Option.{unwrap_or}
use Rattle.win_index.specs.Arcs.{part_at}
use Rattle.win_index.specs.Windows.{IsWindow}
use Rattle.win_index.proofs.Windows.{slice_window}
use Rattle.channel_tables.specs.Tables.{ChannelTable, channel_of, windows_of}
use Rattle.channel_tables.specs.declared.separation.Separation.{Separation}
use Rattle.channel_tables.specs.Apart.{bucket_len, AreClose, IsBad, NoneIsBad}
use Rattle.channel_tables.specs.Searches.{IsLeastIn}
use Rattle.channel_tables.proofs.Tables.{all_buckets, close_along, closer, two_of_far}
use Rattle.nbhd_check.specs.Buckets.{BeginsBadTuple}
use Rattle.nbhd_check.proofs.Cells.{row_more}
use Rattle.nbhd_check.proofs.Ends.{push_two}
use Rattle.nbhd_check.proofs.Parts.{quotient_below}
use Rattle.nbhd_check.proofs.Buckets.{free_of_none}
use Rattle.nbhd_check.proofs.least.single_windows.Goals.{After-from-each}
use Rattle.nbhd_check.proofs.least.single_windows.Goals as goal

-- Windows of one identifier: each other identifier can be next to it and at distance two.
one_at : (i : ℕ) (list : List ℕ) → i < length list → take 1 (drop i list) ≡ get_or list i 0 ∷ []
one_at i [] lt = absurd (omega arith)
one_at zero (x ∷ list) lt = refl
one_at (suc i) (x ∷ list) lt = one_at i list (omega arith)

-- two of a tuple's identifiers, as a tuple
pair : (t : ChannelTable) (s : Separation) (i : ℕ) (tuple : List ℕ) → t.rounds ≡ 0 → 1 ≤ i → i < length tuple
    → IsWindow (length tuple) t.ids tuple
    → AreClose (max s.near s.far) (channel_of t (part_at t.rounds 0 tuple)) (channel_of t (part_at t.rounds i tuple))
    → BeginsBadTuple t (record { near = max s.near s.far; far = 0 }) (part_at t.rounds 0 tuple)
unfolding IsBad
pair t s i tuple none some lt is close =
    let x : ℕ = get_or tuple 0 0 in
    let y : ℕ = get_or tuple i 0 in
    let one : 2 * t.rounds + 1 ≡ 1 = omega arith in
    let two : 2 ≡ 2 * t.rounds + 1 + 1 = omega arith in
    let first : part_at t.rounds 0 tuple ≡ x ∷ [] = ap (λ n. take n tuple) one ∙ one_at 0 tuple (omega arith) in
    let second : part_at t.rounds i tuple ≡ y ∷ [] = ap (λ n. take n (drop i tuple)) one ∙ one_at i tuple lt in
    let list = x ∷ y ∷ [] in
    let own_first : part_at t.rounds 0 list ≡ x ∷ [] = ap (λ n. take n list) one in
    let own_second : part_at t.rounds 1 list ≡ y ∷ [] = ap (λ n. take n (y ∷ [])) one in
    let is_pair = push_two 0 t.ids x y [] (slice_window t.ids (length tuple) 0 0 tuple is (omega arith))
    (is.below 0 0 (omega arith)) (is.below i 0 lt) refl refl (is.distinct 0 i 0 (omega arith) lt) in (
      list,
      rw (← two) is_pair,
      own_first
          ∙ sym first,
      inl (close_along (max s.near s.far) (ap (channel_of t) (first ∙ sym own_first))
          (ap (channel_of t) (second ∙ sym own_second)) close),
    )

-- a window that begins a bad tuple begins one with a close second window, for the greater distance
bad_next : (t : ChannelTable) (s : Separation) (window : List ℕ) → t.rounds ≡ 0 → BeginsBadTuple t s window
    → BeginsBadTuple t (record { near = max s.near s.far; far = 0 }) window
unfolding IsBad
bad_next t s window none bad =
    let tuple = bad.0 in
    let is = bad.1 in
    let size = is.size in
    let own : IsWindow (length tuple) t.ids tuple = subst (λ k. IsWindow k t.ids tuple) (sym size) is in
    let first = channel_of t (part_at t.rounds 0 tuple) in
    subst (BeginsBadTuple t (record { near = max s.near s.far; far = 0 })) bad.2 (⊎_elim
    (λ (close : AreClose s.near first (channel_of t (part_at t.rounds 1 tuple))).
    pair t s 1 tuple none (omega arith) (omega arith) own
    (closer s.near (max s.near s.far) first (channel_of t (part_at t.rounds 1 tuple)) (omega arith) close))
    (λ (close : AreClose s.far first (channel_of t (part_at t.rounds 2 tuple))).
    let two = two_of_far s first (channel_of t (part_at t.rounds 2 tuple)) close in
    pair t s 2 tuple none (omega arith) (omega (arith, two)) own
    (closer s.far (max s.near s.far) first (channel_of t (part_at t.rounds 2 tuple)) (omega arith) close))
    bad.3)

-- the tuples before the first bad one, or all
none_before : (t : ChannelTable) (s : Separation) (count : ℕ) (found : Option ℕ) → IsLeastIn t s 0 count found
    → NoneIsBad t s 0 (unwrap_or found count) × (unwrap_or found count ≤ count)
none_before t s count None none = (none, omega arith)
none_before t s count (Some n) least = (least.1.1.least, omega (arith, least.0))

-- each window begins a tuple with each other identifier
module _ (c : After-from-each) where
  each_is : c.from-each.result - 1 ≡ bucket_len c.args.tuples.windows.now (record { near = c.max-near.result; far = 0 })
  each_is =
      let t = c.args.tuples.windows.now in
      let own : c.from-each.result - 1 ≡ 1 * (t.ids - (2 * t.rounds + 1) - 0) =
      omega (arith, c.from-each.ensures, c.ids.ensures, c.shape.ensures.ids, c.requires) in
      own

  before : NoneIsBad c.args.tuples.windows.now (record { near = c.max-near.result; far = 0 }) 0 c.unwrap_or-first.result
      × (c.unwrap_or-first.result ≤ c.count-count.result)
  before =
      rw c.unwrap_or-first.ensures
      (none_before c.args.tuples.windows.now (record { near = c.max-near.result; far = 0 }) c.count-count.result c.least_bad.result c.least_bad.ensures)

pub nonzero_div-result : goal.nonzero_div-result
nonzero_div-result c = omega (arith, c.from-each.ensures, c.ids.ensures, c.shape.ensures.ids, c.shape.ensures.table.begun.shape.ids.enough)

pub overflow_cast-result : goal.overflow_cast-result
overflow_cast-result c =
    let t = c.args.tuples.windows.now in
    let d = (goal.at.overflow_cast-result c).After-from-each in
    let each : ℕ = c.from-each.result - 1 in
    let windows : ℕ = length (windows_of t) in
    let all : c.count-count.result ≡ windows * each =
    c.count-count.ensures ∙ all_buckets t (record { near = c.max-near.result; far = 0 })
    ∙ ap (λ n. windows * n) (sym (each_is d)) in
    let some : 0 < each = omega (arith, c.from-each.ensures, c.ids.ensures, c.shape.ensures.ids, c.shape.ensures.table.begun.shape.ids.enough) in
    let few = quotient_below c.unwrap_or-first.result each (windows + 1)
    (omega (arith, (before d).1, all, row_more windows each, some)) in
    omega (arith, few, c.shape.ensures.table.begun.shape.few_windows)

pub returns : goal.returns
returns c number window from below item bad =
    let t = c.args.tuples.windows.now in
    let s = c.args.tuples.separation in
    let d = (goal.at.returns c).After-from-each in
    let each : ℕ = c.from-each.result - 1 in
    let next : Separation = record { near = c.max-near.result; far = 0 } in
    let first : ℕ = c.unwrap_or-first.result in
    let free = free_of_none t next 0 (first / each) first
    (λ n tuple low high at'. (before d).0 n tuple (omega arith) high at')
    (rw (← each_is d) (div-mul-le_self first each)) in
    free number window from below item
    (subst (λ n. BeginsBadTuple t (record { near = n; far = 0 }) window) (sym c.max-near.ensures) (bad_next t s window c.requires bad))
