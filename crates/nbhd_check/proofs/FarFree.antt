-- Windows that begin no tuple with a close third window, and the families of these third windows.
use Rattle.std.proofs.Common.{◌≡◌, ◌≢◌, ℕ, ◌+◌, ◌-◌, ◌*◌, ◌<◌, ◌≤◌, List, ◌∷◌, length, get_or, take, drop, slice_get}
use Rattle.std.proofs.Common.{Some, sym, ap, ◌∙◌, arith}
use Rattle.std.proofs.lemmas.List.{get_or-take, get_or-drop, take-take, drop-take}
use Rattle.std.proofs.lemmas.Option.{same_Some, slice_get_within}
use Rattle.std.proofs.lemmas.Nat.{mul-le}
use Rattle.std.specs.Int.{abs_diff}
use Rattle.win_index.specs.Arcs.{part_at}
use Rattle.win_index.specs.Falling.{falling}
use Rattle.win_index.specs.Windows.{IsWindow}
use Rattle.win_index.proofs.Windows.{slice_window, length-windows, windows_all, window_place, in_longer_bucket, one_number, one_bucket, window_drop, falling-add, falling_two}
use Rattle.channel_tables.specs.Tables.{ChannelTable, channel_of, windows_of}
use Rattle.channel_tables.specs.Apart.{AreClose}
use Rattle.channel_tables.proofs.Tables.{close_along, channel_at}
use Rattle.nbhd_check.specs.Counts.{family_len, shared_len, shared_lists, IsFamily}
use Rattle.nbhd_check.specs.Buckets.{BeginsFarTuple}
use Rattle.nbhd_check.proofs.Cells.{row_more}
use Rattle.nbhd_check.proofs.Ends.{by_first}

-- the first two identifiers of a window of a table
pub first_two : (t : ChannelTable) (number : ℕ) (window : List ℕ) → 1 ≤ t.rounds
    → slice_get (windows_of t) number ≡ Some window
    → (2 ≤ length window) × (get_or window 0 0 < t.ids) × (get_or window 1 0 < t.ids)
first_two t number window some item =
    let is = windows_all (2 * t.rounds + 1) t.ids number window item in
    let size = is.size in
    (omega arith, is.below 0 0 (omega arith), is.below 1 0 (omega arith))

-- a window of a table by these two and the others
pub by_pair : (t : ChannelTable) (number first second : ℕ) (window z : List ℕ) → 1 ≤ t.rounds
    → slice_get (windows_of t) number ≡ Some window
    → (get_or window 0 0 ≡ first) × (get_or window 1 0 ≡ second) × (drop 2 window ≡ z) → window ≡ first ∷ second ∷ z
by_pair t number first second window z some item own =
    by_first window (first_two t number window some item).0 ∙ (λ q. own.0 q ∷ own.1 q ∷ own.2 q)

module _ (t : ChannelTable) (some : 1 ≤ t.rounds) where
  size : 2 * t.rounds + 1 ≡ shared_len t + 2
  size = omega arith

  -- the windows of a table, by families
  pub all_of_families : length (windows_of t) ≡ length (shared_lists t) * family_len t
  all_of_families =
      rw (size, length-windows (shared_len t + 2) t.ids, length-windows (shared_len t) t.ids, ← falling_two (t.ids - shared_len t))
      (falling-add t.ids (shared_len t) 2)

  -- the windows of a family are numbered within those of the table
  pub family_within : (number : ℕ) → number < length (shared_lists t)
      → number * family_len t + family_len t ≤ length (windows_of t)
  family_within number below =
      omega (arith, all_of_families, row_more number (family_len t), mul-le (number + 1) (family_len t) (length (shared_lists t)) (family_len t) (omega arith) (omega arith))

  -- the windows that begin with a list of shared identifiers
  pub family_is : (z : List ℕ) (number : ℕ) → slice_get (shared_lists t) number ≡ Some z
      → IsFamily t z (number * family_len t) (family_len t)
  family_is z number item =
      let len = falling_two (t.ids - shared_len t) in
      let bucket = λ (n : ℕ) (window : List ℕ) (at' : slice_get (windows_of t) n ≡ Some window). in_longer_bucket
      (shared_len t) t.ids 2 n window (rw size at at') in
      rw (← len) (record {
        within = rw len (family_within number (slice_get_within (shared_lists t) number z item));
        stands = λ window is begins.
            let place = window_place (2 * t.rounds + 1) t.ids window is in
            let own = bucket place.0 window place.1 in
            let same = one_number (shared_len t) t.ids own.number number z (own.front_at ∙ ap Some begins) item in
            let number_is = rw same at own.number_is in
            let inside = own.inside in
            (place.0, omega arith, omega arith, place.1);
        begins = λ k window from to at'.
            let own = bucket k window at' in
            let same = one_bucket (falling (t.ids - shared_len t) 2) own.number own.rest number k own.inside own.number_is from to in
            same_Some (take (shared_len t) window) z (sym own.front_at ∙ ap (slice_get (shared_lists t)) same ∙ item);
      })

  -- every window has a family
  pub family_of : (number : ℕ) (window : List ℕ) → slice_get (windows_of t) number ≡ Some window
      → (family : ℕ) × (family < length (shared_lists t)) × (slice_get (shared_lists t) family ≡ Some (drop 2 window))
  family_of number window item =
      let turn : 2 * t.rounds + 1 ≡ 2 + shared_len t = omega arith in
      let rest = window_drop (shared_len t) t.ids 2 window
      (rw turn at (windows_all (2 * t.rounds + 1) t.ids number window item)) in
      let family = window_place (shared_len t) t.ids (drop 2 window) rest in
      (family.0, slice_get_within (shared_lists t) family.0 (drop 2 window) family.1, family.1)

-- the third window of a tuple that begins with the window, if it is closer than the distance
pub record FarThird (t : ChannelTable) (distance : ℕ) (window : List ℕ) : Type 0 where
  pub third : List ℕ
  pub is : IsWindow (2 * t.rounds + 1) t.ids third
  pub shared : take (shared_len t) third ≡ drop 2 window
  pub close : AreClose distance (channel_of t window) (channel_of t third)
  pub apart : (i j : ℕ) → i < 2 → j < 2 * t.rounds + 1 → get_or window i 0 ≢ get_or third j 0

pub far_third : (t : ChannelTable) (distance : ℕ) (window : List ℕ) → 1 ≤ t.rounds → BeginsFarTuple t distance window
    → FarThird t distance window
unfolding BeginsFarTuple
far_third t distance window some far =
    let len : ℕ = 2 * t.rounds + 1 in
    let tuple = far.0 in
    let is = far.1 in
    let size = is.size in
    let turn : 2 + shared_len t ≡ len = omega arith in
    record {
      third = part_at t.rounds 2 tuple;
      is = slice_window t.ids (2 * t.rounds + 3) 2 len tuple is (omega arith);
      shared = take-take (shared_len t) len (drop 2 tuple) (omega arith) ∙ sym (drop-take 2 (shared_len t) tuple)
          ∙ ap (λ l. drop 2 (take l tuple)) turn ∙ ap (drop 2) far.2;
      close = rw (← far.2) far.3;
      apart = λ i j in_i in_j same.
          is.distinct i (2 + j) 0 (omega arith) (omega arith) (sym (get_or-take len tuple i 0 (omega arith))
          ∙ ap (λ l. get_or l i 0) far.2
          ∙ same ∙ get_or-take len (drop 2 tuple) j 0 in_j ∙ get_or-drop 2 tuple j 0);
    }

-- its number in the family of the third windows, and that its channel is close to that of the window
pub third_in_family :
    (t : ChannelTable) (distance number first n : ℕ) (window : List ℕ) → slice_get (windows_of t) number ≡ Some window
    → IsFamily t (drop 2 window) first n → (own : FarThird t distance window)
    → (k : ℕ) × (first ≤ k) × (k < first + n) × (slice_get (windows_of t) k ≡ Some own.third)
    × (abs_diff (get_or t.entries number 0) (get_or t.entries k 0) < distance)
third_in_family t distance number first n window item family own =
    let found = family.stands own.third own.is own.shared in
    (found.0, found.1, found.2, found.3, close_along distance (channel_at t number window item) (channel_at t found.0 own.third found.3) own.close)

pub some_product : (a b : ℕ) → 1 ≤ a → 1 ≤ b → 1 ≤ a * b
some_product a b some_a some_b = omega (arith, mul-le 1 1 a b some_a some_b)
