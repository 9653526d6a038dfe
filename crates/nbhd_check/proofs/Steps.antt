-- The numbers of windows, as identifiers are added at the end or one is replaced by the next one.
use Rattle.std.proofs.Common.{◌≡◌, ◌≢◌, ℕ, zero, suc, ◌+◌, ◌-◌, ◌*◌, ◌<◌, ◌≤◌, false, cond, nat_lt, List, [], ◌∷◌, ◌++◌}
use Rattle.std.proofs.Common.{count_by, length, get_or, set, take, slice_get, Some, sym, ap, ◌∙◌, arith}
use Rattle.std.proofs.Common.{refl, length-append}
use Rattle.std.proofs.Math.Nat.{add-mul}
use Rattle.std.proofs.Math.Seq.{get_or-append_seam, set-append_seam, take-append_seam, take-set-lt}
use Rattle.std.proofs.lemmas.Bool.Decides.{nat_tests}
use Rattle.std.proofs.lemmas.List.{append_assoc, get_or-set_same, get_or-set_other, get_or-take, length_push, take_all}
use Rattle.std.proofs.lemmas.List.{take-set, take-take}
use Rattle.std.proofs.lemmas.List.Sums.{sum_by-set}
use Rattle.win_index.specs.Falling.{falling}
use Rattle.win_index.specs.Windows.{is_used, windows, IsWindow}
use Rattle.win_index.proofs.Windows.{slice_window, windows_all, free_at, front_step, IsDistinct, unused_at_end, unused_below, unused_few, rank_rises, bucket_of, falling_one, rank, unused_at, window_from_parts}
use Rattle.channel_tables.specs.Tables.{ChannelTable, windows_of}
use Rattle.nbhd_check.specs.Counts.{shared_len}
use Rattle.nbhd_check.specs.FarSearch.{ArePairNumbers}
use Rattle.nbhd_check.specs.declared.far_counts.PairNumbers.{PairNumbers}
use Rattle.nbhd_check.proofs.Ends.{window_moved}

-- it is the same whether the list has x or the next one
same_rank : (list : List ℕ) (i x y : ℕ) → i < length list → get_or list i 0 ≡ x → IsDistinct list
    → IsDistinct (set list i (x + 1)) → y ≢ x + 1
    → rank (set list i (x + 1)) y ≡ rank list y
same_rank list i x y lt own distinct next other =
    let written : count_by (λ w. nat_lt w y) (set list i (x + 1)) + cond (nat_lt (get_or list i 0) y) 1 0
    ≡ count_by (λ w. nat_lt w y) list + cond (nat_lt (x + 1) y) 1 0 =
    sum_by-set (λ w. cond (nat_lt w y) 1 0) list i (x + 1) 0 lt in
    let old = unused_below list y distinct in
    let new = unused_below (set list i (x + 1)) y next in
    grind (arith, nat_tests, written, old, new)

-- the number of the first j identifiers of a window, from that of one more
front_number : (m j n : ℕ) (list : List ℕ) → slice_get (windows (j + 1) m) n ≡ Some (take (j + 1) list)
    → (q : ℕ) × (slice_get (windows j m) q ≡ Some (take j list))
    × (n ≡ q * (m - j) + rank (take j list) (get_or list j 0))
front_number m j n list at' =
    let own = bucket_of j m n (take (j + 1) list) at' in
    let front = take-take j (j + 1) list (omega arith) in
    (own.number, rw front at own.front_at, rw (front, get_or-take (j + 1) list j 0 (omega arith)) at own.number_is)

-- If an identifier is replaced by the next one, the number rises by that of the windows that begin with the identifiers
-- up to it.
module _ (k m i x : ℕ) (list : List ℕ) (lt : i < k) (own : get_or list i 0 ≡ x) (is : IsWindow k m list)
    (new_is : IsWindow k m (set list i (x + 1))) where
  stepped : (d n : ℕ) → i + 1 + d ≤ k → slice_get (windows (i + 1 + d) m) n ≡ Some (take (i + 1 + d) list)
      → slice_get (windows (i + 1 + d) m) (n + falling (m - (i + 1)) d) ≡ Some (take (i + 1 + d) (set list i (x + 1)))
  stepped zero n within at' =
      let size = is.size in
      let plain : i + 1 + zero ≡ i + 1 = omega arith in
      let parts = front_number m i n list (rw plain at at') in
      let step = front_step k m i parts.0 (set list i (x + 1)) new_is lt (parts.1
      ∙ ap Some (sym (take-set list i (x + 1)))) in
      let rises = rank_rises (take i list) x (x + 1) (rw own at (free_at list i is.distinct (omega arith)))
      (omega arith) in
      let number : parts.0 * (m - i) + rank (take i list) (x + 1) ≡ n + 1 =
      omega (arith, rw own at parts.2, rises, unused_few (take i list) x 1) in
      rw plain (ap (slice_get (windows (i + 1) m)) (sym number)
      ∙ rw (get_or-set_same list i (x + 1) 0 (omega arith), take-set list i (x + 1)) at step)
  stepped (suc d) n within at' =
      let j : ℕ = i + 1 + d in
      let new = set list i (x + 1) in
      let size = is.size in
      let new_size = new_is.size in
      let more : i + 1 + suc d ≡ j + 1 = omega arith in
      let parts = front_number m j n list (rw more at at') in
      let q : ℕ = parts.0 in
      let fewer : ℕ = falling (m - (i + 1)) d in
      let step = front_step k m j (q + fewer) new new_is (omega arith) (stepped d q (omega arith) parts.1) in
      let kept = get_or-set_other list i j (x + 1) 0 (λ e. omega (arith, e)) in
      let front = take-set-lt j list i (x + 1) (omega arith) in
      let front_is = slice_window m k 0 j list is (omega arith) in
      let front_size = front_is.size in
      let new_front = rw front at (slice_window m k 0 j new new_is (omega arith)) in
      let same = same_rank (take j list) i x (get_or list j 0) (omega arith) (get_or-take j list i 0 (omega arith)
      ∙ own) front_is.distinct new_front.distinct
      (λ e. new_is.distinct i j 0 (omega arith) (omega arith) (get_or-set_same list i (x + 1) 0 (omega arith) ∙ sym e
      ∙ sym kept)) in
      let number : (q + fewer) * (m - j) + rank (set (take j list) i (x + 1)) (get_or list j 0) ≡ n + fewer * (m - j) =
      omega (arith, same, parts.2, add-mul q fewer (m - j)) in
      let free : m - (i + 1) - d ≡ m - j = omega arith in
      rw (more, free) (ap (slice_get (windows (j + 1) m)) (sym number) ∙ rw (kept, front) at step)

module _ (t : ChannelTable) where
  -- the number of a window of the table in which x is replaced by the next number
  next_number : (n more x : ℕ) (u v : List ℕ) → falling (t.ids - (length u + 1)) (length v) ≡ more
      → slice_get (windows_of t) n ≡ Some (u ++ x ∷ v)
      → IsWindow (2 * t.rounds + 1) t.ids (u ++ (x + 1) ∷ v)
      → slice_get (windows_of t) (n + more) ≡ Some (u ++ (x + 1) ∷ v)
  next_number n more x u v more_is item new_is =
      let k : ℕ = 2 * t.rounds + 1 in
      let list = u ++ x ∷ v in
      let is = windows_all k t.ids n list item in
      let size = is.size in
      let written = set-append_seam u x v (x + 1) in
      let len : length u + 1 + length v ≡ k = omega (arith, length-append u (x ∷ v)) in
      let step = stepped k t.ids (length u) x list (omega arith) (get_or-append_seam u x v 0) is (rw written new_is)
      (length v) n (omega arith)
      (rw (len, take_all k list (omega arith)) item) in
      rw (len, more_is, written, take_all k (u ++ (x + 1) ∷ v) (omega (arith, new_is.size))) at step

  -- the numbers for the next second identifier
  pub next_numbers :
      (z : List ℕ) (a b free : ℕ) (old new : PairNumbers) → length z ≡ shared_len t
      → ArePairNumbers t z a b old → IsWindow (2 * t.rounds + 1) t.ids (a ∷ (b + 1) ∷ z) → free ≡ t.ids - length z
      → new.before ≡ old.before + falling (t.ids - 2) (shared_len t) → new.after ≡ old.after + 1
      → new.turned ≡ old.turned + (free - 1)
      → ArePairNumbers t z a (b + 1) new
  next_numbers z a b free old new size are is free_is before_is after_is turned_is =
      let moved = window_moved (2 * t.rounds + 1) t.ids a (b + 1) z is in
      let split = λ (c : ℕ). append_assoc z (a ∷ []) (c ∷ []) in
      let last : falling (t.ids - (length z + 1)) 1 ≡ free - 1 = falling_one (t.ids - (length z + 1)) ∙ omega arith in
      record {
        before = rw before_is (next_number old.before (falling (t.ids - 2) (shared_len t)) b (a ∷ []) z (ap (falling (t.ids - 2)) size) are.before is);
        after = rw (after_is, ← split (b + 1))
            (next_number old.after 1 b (z ++ a ∷ []) [] refl (are.after ∙ ap Some (sym (split b)))
            (rw split moved.0));
        turned = rw turned_is (next_number old.turned (free - 1) b z (a ∷ []) last are.turned moved.1);
      }

-- an identifier of a list of distinct ones is not among those before it
seam_free : (u v : List ℕ) (x : ℕ) → IsDistinct (u ++ x ∷ v) → is_used u x ≡ false
seam_free u v x distinct =
    rw (take-append_seam u (x ∷ v), get_or-append_seam u x v 0) at
    (free_at (u ++ x ∷ v) (length u) distinct (omega (arith, length-append u (x ∷ v))))

-- the number of the window of the identifiers z, which have a number as a list, and then two others, by the places of
-- these among those that are not in z
pub number_after : (s m number a b place next free : ℕ) (z : List ℕ) → IsWindow (s + 2) m (z ++ a ∷ b ∷ [])
    → slice_get (windows s m) number ≡ Some z
    → free ≡ m - s → place ≡ rank z a → next ≡ rank z b - cond (nat_lt a b) 1 0
    → (cond (nat_lt a b) 1 0 ≤ rank z b)
    × (slice_get (windows (s + 2) m) ((number * free + place) * (free - 1) + next) ≡ Some (z ++ a ∷ b ∷ []))
number_after s m number a b place next free z is item free_is place_is next_is =
    let size = is.size in
    let one = z ++ a ∷ [] in
    let split = append_assoc z (a ∷ []) (b ∷ []) in
    let z_is = windows_all s m number z item in
    let free_a = seam_free z (b ∷ []) a is.distinct in
    let free_b = seam_free one [] b (rw (← split) at is.distinct) in
    let in_a = rw (get_or-append_seam z a (b ∷ []) 0) at
    (is.below (length z) 0 (omega (arith, length-append z (a ∷ b ∷ [])))) in
    let in_b = rw (← split, get_or-append_seam one b [] 0) at
    (is.below (length one) 0 (omega (arith, length-append z (a ∷ b ∷ []), length_push z a))) in
    let first = window_from_parts s m number (rank z a) a z item (unused_at z m a in_a free_a) in
    let second = window_from_parts (suc s) m (number * (m - s) + rank z a) (rank one b) b one first
    (unused_at one m b in_b free_b) in
    let len : suc (suc s) ≡ s + 2 = omega arith in
    let fewer : m - suc s ≡ m - s - 1 = omega arith in
    let end = unused_at_end b a z z_is.distinct free_a in
    let last : next ≡ rank one b = omega arith in
    (omega arith, rw (free_is, place_is, last) (rw (len, fewer, split) at second))
