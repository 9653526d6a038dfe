-- A window from its number: the quotient is the number of the window without its last identifier, and the remainder is
-- the position of that identifier among those that are left.
use Rattle.std.proofs.Common.{◌≡◌, ℕ, zero, ◌+◌, ◌-◌, ◌/◌, ◌%◌, ◌<◌, List, length, take, set, slice_get, Some}
use Rattle.std.proofs.Common.{arith, add-one}
use Rattle.std.proofs.lemmas.List.{take_more_set}
use Rattle.std.proofs.lemmas.Nat.{div_below, mod_below, div-add-mod'}
use Rattle.win_index.specs.Windows.{unused, windows}
use Rattle.win_index.proofs.Numbers.{unused_left, windows-zero, windows_all, window_from_parts, windows_more, length-windows}
use Rattle.win_index.proofs.Sizes.{some_window}

-- the one window of length 0
pub only_window : (k m n : ℕ) (list : List ℕ) → k ≡ 0 → n < length (windows k m) →
    slice_get (windows k m) n ≡ Some (take k list)
only_window k m n list empty lt =
    let one = length-windows zero m in
    let few : n < length (windows zero m) = rw empty at lt in
    let first : n ≡ 0 = omega arith in
    rw (empty, first, windows-zero m)

pub front_below : (k m last n : ℕ) → k ≡ last + 1 → n < length (windows k m) → n / (m - last) < length (windows last m)
front_below k m last n more lt =
    let left = some_window k m n lt in
    let all = rw (more, windows_more last m) at lt in
    div_below n (m - last) (length (windows last m)) (omega arith) all

pub rest_below :
    (m last n place : ℕ) (front : List ℕ) → slice_get (windows last m) place ≡ Some front → last < m
    → n % (m - last) < length (unused m front)
rest_below m last n place front at' lt =
    omega (arith, unused_left (windows_all last m place front at'), mod_below n (m - last) (omega arith))

pub written :
    (k m last n x : ℕ) (list : List ℕ) → k ≡ last + 1 → last < length list
    → slice_get (windows last m) (n / (m - last)) ≡ Some (take last list)
    → slice_get (unused m (take last list)) (n % (m - last)) ≡ Some x
    → slice_get (windows k m) n ≡ Some (take k (set list last x))
written k m last n x list more lt front_at last_at =
    let new = take_more_set list last x lt in
    let whole = window_from_parts last m (n / (m - last)) (n % (m - last)) x (take last list) front_at last_at in
    let number = div-add-mod' n (m - last) in
    rw (more, new, add-one) (rw number at whole)
