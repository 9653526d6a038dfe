-- Bounds on the numbers of windows.
use Rattle.std.proofs.Common.{◌≡◌, ℕ, zero, suc, ◌-◌, ◌<◌, ◌≤◌, List, [], length, get_or, arith, add-one, ⊎_elim}
use Rattle.std.proofs.Math.Nat.{le-mul_of_pos_right}
use Rattle.std.proofs.lemmas.Bool.{cases_lt}
use Rattle.std.proofs.lemmas.Option.{slice_get-get_or}
use Rattle.win_index.specs.Windows.{windows, IsWindow}
use Rattle.win_index.proofs.Numbers.{unused_left, windows-zero, windows_all, windows_more}

-- there are at least as many longer windows
pub windows_rise : (m j k : ℕ) → j ≤ k → k ≤ m → length (windows j m) ≤ length (windows k m)
windows_rise m j zero le within =
    let same : j ≡ zero = omega arith in
    rw same (omega arith)
windows_rise m j (suc k) le within =
    ⊎_elim
    (λ (lt : j < suc k).
    let less = windows_rise m j k (omega arith) (omega arith) in
    let free : 0 < m - k = omega arith in
    let more = le-mul_of_pos_right (length (windows k m)) free in
    omega (arith, rw add-one at (windows_more k m)))
    (λ (ge : suc k ≤ j).
    let same : j ≡ suc k = omega arith in
    rw same (omega arith))
    (cases_lt j (suc k))

-- a window has at most as many numbers as there are
pub window_within : (k m : ℕ) (list : List ℕ) → IsWindow k m list → k ≤ m
window_within k m list window = omega (arith, unused_left window)

pub one_window : (m : ℕ) → length (windows 0 m) ≡ 1
one_window m = rw (windows-zero m)

pub some_windows : (m k : ℕ) → k ≤ m → 0 < length (windows k m)
some_windows m k le = omega (arith, windows_rise m 0 k (omega arith) le, one_window m)

-- if there is a window at all, there are at least as many numbers as it has
pub some_window : (k m n : ℕ) → n < length (windows k m) → k ≤ m
some_window k m n lt =
    let at' = slice_get-get_or (windows k m) n [] lt in
    window_within k m (get_or (windows k m) n []) (windows_all k m n (get_or (windows k m) n []) at')

pub ruleset counts = (windows_more, some_windows, one_window)

pub no_windows : (k m : ℕ) → m < k → length (windows k m) ≡ 0
no_windows k m more = grind (arith, some_window k m 0)
