-- Counts of the windows that hold an identifier.
use Rattle.std.proofs.Common.{◌≡◌, ◌≢◌, ℕ, ◌+◌, ◌-◌, ◌*◌, ◌<◌, ◌≤◌, Bool, ◌&&◌, ◌||◌, ◌==◌, eqb, ltb, nat_lt, cond, min}
use Rattle.std.proofs.Common.{List, [], length, get_or, slice_get, Some, All, arith}
use Rattle.std.specs.Int.{abs_diff}
use Rattle.std.specs.List.{range_with_len}
use Rattle.std.proofs.lemmas.Bool.{cases_lt, cases_Bool}
use Rattle.std.proofs.lemmas.Bool.Decides.{nat_tests}
use Rattle.std.proofs.lemmas.List.Sums.{count_by-le-length}
use Rattle.std.proofs.lemmas.List.FromFn.{length-range_with_len}
use Rattle.std.proofs.lemmas.List.{get_or_past}
use Rattle.std.proofs.lemmas.Option.{get_or_from_slice_get}
use Rattle.channel_tables.specs.Tables.{ChannelTable, windows_of}
use Rattle.nbhd_check.specs.Counts.{shared_len, is_held, held_count}
use Rattle.nbhd_check.proofs.Included.{count_sum, count_more}
use Rattle.win_index.proofs.Windows.{windows_all}

pub count_few : (t : ChannelTable) (first n x : ℕ) (passes : ℕ → Bool) → held_count t first n x passes ≤ n
count_few t first n x passes =
    omega (arith, count_by-le-length (λ k. passes (get_or t.entries k 0) && is_held t x k) (range_with_len first n), length-range_with_len first n)

-- a channel below a limit is the last one below it, or it is below that one
one_step : (row e : ℕ) (h : Bool) → 1 ≤ row
    → cond (eqb row (e + 1) && h) 1 0 + cond (ltb e (row - 1) && h) 1 0 ≡ cond (ltb e row && h) 1 0
one_step row e h some = grind (arith, nat_tests, cases_Bool h)

pub below_step :
    (t : ChannelTable) (first n x row : ℕ) → 1 ≤ row
    → held_count t first n x (λ channel. row == channel + 1) + held_count t first n x (λ channel. nat_lt channel (row - 1))
    ≡ held_count t first n x (λ channel. nat_lt channel row)
below_step t first n x row some =
    count_sum (λ k. eqb row (get_or t.entries k 0 + 1) && is_held t x k)
    (λ k. ltb (get_or t.entries k 0) (row - 1) && is_held t x k)
    (λ k. ltb (get_or t.entries k 0) row && is_held t x k) (range_with_len first n)
    (λ k. one_step row (get_or t.entries k 0) (is_held t x k) some)

-- a channel below the upper limit is below the lower one, or it is close
one_close : (channel distance low high e most : ℕ) (h : Bool) → 1 ≤ distance → e < most → low ≡ channel + 1 - distance
    → high ≡ min (channel + distance) most
    → cond (ltb e low && h) 1 0 + cond (ltb (abs_diff channel e) distance && h) 1 0 ≡ cond (ltb e high && h) 1 0
one_close channel distance low high e most h some below low_is high_is = grind (arith, nat_tests, cases_Bool h)

pub close_of_sums :
    (t : ChannelTable) (first n x channel distance low high most : ℕ) → 1 ≤ distance
    → ((k : ℕ) → get_or t.entries k 0 < most)
    → low ≡ channel + 1 - distance → high ≡ min (channel + distance) most
    → held_count t first n x (λ other. nat_lt other high) - held_count t first n x (λ other. nat_lt other low)
    ≡ held_count t first n x (λ other. nat_lt (abs_diff channel other) distance)
close_of_sums t first n x channel distance low high most some below low_is high_is =
    let all = count_sum (λ k. ltb (get_or t.entries k 0) low && is_held t x k)
    (λ k. ltb (abs_diff channel (get_or t.entries k 0)) distance && is_held t x k)
    (λ k. ltb (get_or t.entries k 0) high && is_held t x k) (range_with_len first n)
    (λ k. one_close channel distance low high (get_or t.entries k 0) most (is_held t x k) some (below k) low_is high_is) in
    omega arith

-- the three marks of a window: its last two identifiers, and the number of identifiers
one_mark : (v row x one two ids : ℕ) → one ≢ ids → two ≢ ids → one ≢ two
    → cond (eqb v row && eqb x one) 1 0 + cond (eqb v row && eqb x two) 1 0 + cond (eqb v row && eqb x ids) 1 0
    ≡ cond (eqb v row && (eqb x ids || (eqb x one || eqb x two))) 1 0
one_mark v row x one two ids not_one not_two other = grind (arith, nat_tests)

-- one more window is counted in three cells of the row after that of its channel
pub window_counted :
    (t : ChannelTable) (first n x v : ℕ) (window : List ℕ) → 1 ≤ t.rounds
    → slice_get (windows_of t) (first + n) ≡ Some window
    → (let row = get_or t.entries (first + n) 0 + 1 in
    held_count t first n x (λ other. v == other + 1) + cond (eqb v row && eqb x (get_or window (shared_len t) 0)) 1 0
    + cond (eqb v row && eqb x (get_or window (shared_len t + 1) 0)) 1 0 + cond (eqb v row && eqb x t.ids) 1 0
    ≡ held_count t first (n + 1) x (λ other. v == other + 1))
window_counted t first n x v window some item =
    let is = windows_all (2 * t.rounds + 1) t.ids (first + n) window item in
    let size = is.size in
    let held = count_more (λ k. eqb v (get_or t.entries k 0 + 1) && is_held t x k) first n in
    let below : (i : ℕ) → i < length window → get_or window i 0 ≢ t.ids = λ i lt e. omega (arith, is.below i 0 lt, e) in
    let marks = one_mark v (get_or t.entries (first + n) 0 + 1) x (get_or window (shared_len t) 0)
    (get_or window (shared_len t + 1) 0) t.ids
    (below (shared_len t) (omega arith)) (below (shared_len t + 1) (omega arith))
    (is.distinct (shared_len t) (shared_len t + 1) 0 (omega arith) (omega arith)) in
    omega (arith, rw (get_or_from_slice_get (windows_of t) (first + n) window [] item) at held, marks)

-- each entry of a table is a channel, and so is what is read past the last one
pub entries_below : (entries : List ℕ) (most : ℕ) → 1 ≤ most → All (λ c. c < most) entries → (k : ℕ)
    → get_or entries k 0 < most
entries_below entries most some below k = grind (arith, cases_lt k (length entries), below k 0, get_or_past entries k 0)
