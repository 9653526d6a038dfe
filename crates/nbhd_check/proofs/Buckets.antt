-- The tuples that begin with one window, and their later windows.
use Rattle.std.proofs.Common.{◌≡◌, ◌≢◌, ℕ, suc, ◌+◌, ◌-◌, ◌*◌, ◌<◌, ◌≤◌, List, length, get_or, take, drop, slice_get}
use Rattle.std.proofs.Common.{slice_index, Some, sym, ap, ◌∙◌, arith, false, [], ◌∷◌, refl, inl, ⊎_elim, length-drop}
use Rattle.std.proofs.Math.Nat.{mul-le-mul_right, suc-mul}
use Rattle.std.proofs.lemmas.Bool.{cases_lt}
use Rattle.std.proofs.lemmas.List.{get_or-take, get_or-drop, length-take-le, take-take, drop-take}
use Rattle.std.proofs.lemmas.Option.{same_Some}
use Rattle.win_index.specs.Arcs.{part_at}
use Rattle.win_index.specs.Buckets.{IsBucketStart}
use Rattle.win_index.specs.Windows.{is_used, unused, IsWindow}
use Rattle.win_index.proofs.Windows.{slice_window, windows_all, free_at, window_place, longer_number, IsDistinct, distinct_head, unused_at, in_longer_bucket, one_number, part_of_front}
use Rattle.channel_tables.specs.Tables.{ChannelTable, channel_of, windows_of}
use Rattle.channel_tables.specs.declared.separation.Separation.{Separation}
use Rattle.channel_tables.specs.Apart.{extra, AreClose, IsBad, NoneIsBad}
use Rattle.channel_tables.specs.Apart.{bucket_len}
use Rattle.channel_tables.proofs.Tables.{close_along, some_distance, two_of_far, channel_at}
use Rattle.nbhd_check.specs.Buckets.{AreFree, BeginsBadTuple, BeginsFarTuple, HasCloseOutside}

-- the first identifier of a list of distinct ones is not among the others
pub first_is_free : (list : List ℕ) → IsDistinct list → is_used (drop 1 list) (get_or list 0 0) ≡ false
first_is_free [] distinct = refl
first_is_free (y ∷ list) distinct = distinct_head y list distinct

-- if the channels of a bucket are not close, but for the window that would end in the window's first identifier, no
-- second window is
pub none_close_after :
    (t : ChannelTable) (window : List ℕ) (number start gap distance : ℕ) → slice_get (windows_of t) number ≡ Some window
    → length t.entries ≡ length (windows_of t) → IsBucketStart (2 * t.rounds) t.ids (drop 1 window) start
    → gap ≡ length (unused (slice_index window 0) (drop 1 window))
    → ¬ HasCloseOutside (take (t.ids - 2 * t.rounds) (drop start t.entries)) gap distance (slice_index t.entries number)
    → ¬ BeginsBadTuple t (record { near = distance; far = 0 }) window
unfolding IsBad
none_close_after t window number start gap distance item full bucket gap_is none bad =
    let k : ℕ = 2 * t.rounds in
    let tuple = bad.0 in
    let is = bad.1 in
    let size = is.size in
    let second = part_at t.rounds 1 tuple in
    let own : IsWindow (k + 1) t.ids second = slice_window t.ids (k + 1 + 1) 1 (k + 1) tuple is (omega arith) in
    let size_own = own.size in
    let turn : 1 + k ≡ k + 1 = omega arith in
    let front : take k second ≡ drop 1 window =
    take-take k (k + 1) (drop 1 tuple) (omega arith) ∙ sym (drop-take 1 k tuple) ∙ ap (λ n. drop 1 (take n tuple)) turn
    ∙ ap (drop 1) bad.2 in
    let x : ℕ = get_or second k 0 in
    let y : ℕ = get_or window 0 0 in
    let place : ℕ = length (unused x (drop 1 window)) in
    let number_at = bucket.each second own front in
    let bucket_at = window_place k t.ids (take k second) (slice_window t.ids (k + 1) 0 k second own (omega arith)) in
    let inside : place < t.ids - k = rw front at (longer_number k t.ids bucket_at.0 second own bucket_at.1).0 in
    let within = bucket.within in
    let read : get_or (take (t.ids - k) (drop start t.entries)) place 0 ≡ get_or t.entries (start + place) 0 =
    get_or-take (t.ids - k) (drop start t.entries) place 0 inside ∙ get_or-drop start t.entries place 0 in
    let long = length-take-le (t.ids - k) (drop start t.entries) (omega (arith, length-drop start t.entries)) in
    let whole = windows_all (k + 1) t.ids number window item in
    let size_whole = whole.size in
    let outside : place ≢ gap = λ same.
    let free_x = rw front at (free_at second k own.distinct (omega arith)) in
    let at_x = unused_at (drop 1 window) t.ids x (own.below k 0 (omega arith)) free_x in
    let at_y = unused_at (drop 1 window) t.ids y (whole.below 0 0 (omega arith))
    (first_is_free window whole.distinct) in
    let equal : x ≡ y = same_Some x y (sym at_x
    ∙ ap (slice_get (unused t.ids (drop 1 window))) (same ∙ gap_is) ∙ at_y) in
    let last : x ≡ get_or tuple (1 + k) 0 =
    get_or-take (k + 1) (drop 1 tuple) k 0 (omega arith) ∙ get_or-drop 1 tuple k 0 in
    let first : y ≡ get_or tuple 0 0 =
    ap (λ l. get_or l 0 0) (sym bad.2) ∙ get_or-take (k + 1) tuple 0 0 (omega arith) in
    is.distinct 0 (1 + k) 0 (omega arith) (omega arith) (sym first ∙ sym equal ∙ last) in
    let here = ap (channel_of t) bad.2 ∙ channel_at t number window item in
    let part = λ (step : ℕ). channel_of t (part_at t.rounds step tuple) in
    ⊎_elim
    (λ (close : AreClose distance (part 0) (part 1)).
    none (place, omega (arith, long, inside), outside, rw read (close_along distance here (channel_at t (start + place) second number_at) close)))
    (λ (close : AreClose 0 (part 0) (part 2)). let some = some_distance 0 (part 0) (part 2) close in absurd (omega arith))
    bad.3

-- windows that begin no tuple that is bad by near, and none that is bad by far
pub free_of_both :
    (t : ChannelTable) (s : Separation) (a b less : ℕ)
    → AreFree t (BeginsBadTuple t (record { near = s.near; far = 0 })) 0 a
    → AreFree t (BeginsFarTuple t s.far) 0 b → less ≤ a → less ≤ b → AreFree t (BeginsBadTuple t s) 0 less
unfolding IsBad BeginsFarTuple
free_of_both t s a b less near far le_a le_b number window from below item bad =
    let len : ℕ = 2 * t.rounds + 1 in
    let tuple = bad.0 in
    let is = bad.1 in
    let size = is.size in
    let part = λ (step : ℕ) (list : List ℕ). part_at t.rounds step list in
    let channel = λ (step : ℕ). channel_of t (part step tuple) in
    ⊎_elim
    (λ (close : AreClose s.near (channel 0) (channel 1)).
    let same = λ (step : ℕ) (le : step ≤ 1). part_of_front t.rounds step (len + 1) tuple (omega arith) in
    near number window from (omega arith) item (
      take (len + 1) tuple,
      slice_window t.ids (len + extra s) 0 (len + 1) tuple is (omega arith),
      same 0 (omega arith) ∙ bad.2,
      inl (close_along s.near (sym (ap (channel_of t) (same 0 (omega arith)))) (sym (ap (channel_of t) (same 1 (omega arith)))) close),
    ))
    (λ (close : AreClose s.far (channel 0) (channel 2)).
    let two = two_of_far s (channel 0) (channel 2) close in
    let exact : len + extra s ≡ 2 * t.rounds + 3 = omega arith in
    far number window from (omega arith) item (tuple, rw exact at is, bad.2, close))
    bad.3

module _ (t : ChannelTable) (s : Separation) where
  -- no window begins a bad tuple if none of its tuples is bad
  pub free_of_none : (low count to : ℕ) → NoneIsBad t s (low * bucket_len t s) to → count * bucket_len t s ≤ to
      → AreFree t (BeginsBadTuple t s) low count
  free_of_none low count to none le number window from below item bad =
      let k = 2 * t.rounds + 1 in
      let len : ℕ = bucket_len t s in
      let tuple = bad.0 in
      let numbered = window_place (k + extra s) t.ids tuple bad.1 in
      let bucket = in_longer_bucket k t.ids (extra s) numbered.0 tuple numbered.1 in
      let inside = bucket.inside in
      let same : bucket.number ≡ number =
      one_number k t.ids bucket.number number window (bucket.front_at ∙ ap Some bad.2) item in
      let number_is : numbered.0 ≡ number * len + bucket.rest
      = bucket.number_is ∙ ap (λ n. n * len + bucket.rest) same in
      let next : suc number ≤ count = omega arith in
      none numbered.0 tuple (omega (arith, number_is, mul-le-mul_right len from))
      (omega (arith, number_is, inside, le, mul-le-mul_right len next, suc-mul number len)) numbered.1 bad.3

  -- no tuple is bad that begins with one of the first windows, if these begin none
  pub none_of_free : (n count : ℕ) → AreFree t (BeginsBadTuple t s) 0 count → n ≤ count * bucket_len t s
      → NoneIsBad t s 0 n
  none_of_free n count free le m tuple ge lt item bad =
      let k = 2 * t.rounds + 1 in
      let bucket = in_longer_bucket k t.ids (extra s) m tuple item in
      let own = bucket.number_is in
      ⊎_elim
      (λ (below : bucket.number < count). free bucket.number (take k tuple) (omega arith) below bucket.front_at
      (tuple, windows_all (k + extra s) t.ids m tuple item, refl, bad))
      (λ (past : count ≤ bucket.number). absurd (omega (arith, mul-le-mul_right (bucket_len t s) past)))
      (cases_lt bucket.number count)
