-- The position of a window in the list of windows, and that each window has one.
use Rattle.std.proofs.Common.{◌≡◌, ◌↔◌, ℕ, zero, suc, ◌+◌, ◌-◌, ◌*◌, ◌<◌, ◌≤◌, false, nat_eq, List, length, get_or}
use Rattle.std.proofs.Common.{take, slice_get, Some, None, IsSome, sym, ◌∙◌, arith, add-one}
use lib.Pointwise.{pointwise, pointwise_decides}
use Rattle.std.proofs.lemmas.Bool.{eqb-true, eq-eqb}
use Rattle.std.proofs.lemmas.List.{get_or-take, length-take-le, take_all, take_more}
use Rattle.win_index.specs.Windows.{is_used, unused, windows, number_of, IsWindow}
use Rattle.win_index.proofs.Unused.{IsDistinct, lacks_from_differs}
use Rattle.win_index.proofs.Finding.{IsOnly, position_some, position_is, position_none, has_position}
use Rattle.win_index.proofs.Numbers.{windows-zero, push_window, window_step, windows_all}
use Rattle.win_index.proofs.Order.{one_place}

-- the list of windows has each list at most once
is_only : (k m : ℕ) (list : List ℕ) → IsOnly (λ w. pointwise nat_eq w list) (windows k m) list
is_only k m list =
    record {
      same = λ w. pointwise_decides (λ x y. (eqb-true x y, eq-eqb x y)) w list;
      once = λ i j. one_place k m i j list;
    }

-- the meaning of a number
pub number_of_some : (k m n : ℕ) (list : List ℕ) → number_of k m list ≡ Some n → slice_get (windows k m) n ≡ Some list
unfolding number_of
number_of_some k m n list = position_some (is_only k m list) n

-- the number of an item is its position
pub number_of_is : (k m n : ℕ) (list : List ℕ) → slice_get (windows k m) n ≡ Some list → number_of k m list ≡ Some n
unfolding number_of
number_of_is k m n list = position_is (is_only k m list) n

-- a list that is no window has no number
pub number_of_none : (k m : ℕ) (list : List ℕ) → ¬ IsWindow k m list → number_of k m list ≡ None
unfolding number_of
number_of_none k m list = position_none (is_only k m list) (IsWindow k m list) (λ n. windows_all k m n list)

-- the item at a position does not occur before it
pub free_at : (list : List ℕ) (j : ℕ) → IsDistinct list → j < length list →
    is_used (take j list) (get_or list j 0) ≡ false
free_at list j distinct lt =
    lacks_from_differs (take j list) (get_or list j 0) (λ k within e.
    let short = length-take-le j list (omega arith) in
    let before : k < j = omega arith in
    distinct k j 0 before lt (sym (get_or-take j list k 0 before) ∙ e))

-- one more cell of a list, with a number that the cells before it lack
pub front_more :
    (p m : ℕ) (list : List ℕ) → p < length list → IsWindow p m (take p list) → get_or list p 0 < m
    → is_used (take p list) (get_or list p 0) ≡ false → IsWindow (p + 1) m (take (p + 1) list)
front_more p m list lt window below free =
    let more = take_more list p 0 lt in
    let longer = push_window p m (get_or list p 0) (take p list) window below free in
    rw (more, add-one) longer

-- the number of the first j+1 identifiers of a window, from that of the first j
pub front_step :
    (k m j n : ℕ) (list : List ℕ) → IsWindow k m list → j < k → slice_get (windows j m) n ≡ Some (take j list)
    → slice_get (windows (j + 1) m) (n * (m - j) + length (unused (get_or list j 0) (take j list)))
    ≡ Some (take (j + 1) list)
front_step k m j n list window lt at' =
    let size = window.size in
    let within : j < length list = omega arith in
    let more = take_more list j 0 within in
    let x : ℕ = get_or list j 0 in
    let step =
    window_step j m n x (take j list) at' (window.below j 0 within) (free_at list j window.distinct within) in
    rw (more, add-one) step

-- the position of the first j identifiers of a window among the windows of length j
front_place :
    (k m j : ℕ) (list : List ℕ) → IsWindow k m list → j ≤ k → (n : ℕ) × (slice_get (windows j m) n ≡ Some (take j list))
front_place k m zero list window le = (0, rw (windows-zero m))
front_place k m (suc j) list window le =
    let front = front_place k m j list window (omega arith) in
    let step = front_step k m j front.0 list window (omega arith) front.1 in
    (front.0 * (m - j) + length (unused (get_or list j 0) (take j list)), rw add-one at step)

-- each window is in the list
pub window_place : (k m : ℕ) (list : List ℕ) → IsWindow k m list → (n : ℕ) × (slice_get (windows k m) n ≡ Some list)
window_place k m list window =
    let place = front_place k m k list window (omega arith) in
    let whole = take_all k list (omega (arith, window.size)) in
    (place.0, rw whole at place.1)

-- the lists that have a number are the windows
pub has_number : (k m : ℕ) (list : List ℕ) → IsSome (number_of k m list) ↔ IsWindow k m list
unfolding number_of
has_number k m list =
    has_position (is_only k m list) (IsWindow k m list) (λ n. windows_all k m n list) (window_place k m list)
