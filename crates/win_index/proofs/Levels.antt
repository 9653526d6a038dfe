-- The numbers of windows and tuples of a shape are small.
use Rattle.std.proofs.Common.{◌≡◌, ℕ, zero, suc, ◌+◌, ◌-◌, ◌*◌, ◌^◌, ◌<◌, ◌≤◌, length, ⊎_elim, arith, lit<}
use Rattle.std.proofs.lemmas.Bool.{cases_lt}
use Rattle.std.proofs.Math.Nat.{mul_assoc, pow-suc, pow-le-pow_right}
use Rattle.std.proofs.lemmas.Nat.{mul-le}
use Rattle.win_index.specs.declared.limits.TheConstants.{MAX_EXTRA, MAX_IDS, MAX_WINDOWS}
use Rattle.win_index.specs.declared.shape.Shape.{Shape}
use Rattle.win_index.specs.ShapeRange.{HasIds, HasFewWindows}
use Rattle.win_index.specs.Windows.{windows}
use Rattle.win_index.proofs.Numbers.{windows_more}
use Rattle.win_index.proofs.Sizes.{windows_rise}

-- there are at most as many windows of a smaller length
pub few_shorter : (m t len : ℕ) → HasIds m t → HasFewWindows m t → len ≤ 2 * t + 1 →
    length (windows len m) ≤ MAX_WINDOWS
few_shorter m t len ids few le = omega (arith, few, windows_rise m len (2 * t + 1) le (omega (arith, ids.enough)))

pub few_of_shape : (s : Shape) (len : ℕ) → len ≤ 2 * s.rounds + 1 → length (windows len s.ids) ≤ MAX_WINDOWS
few_of_shape s len le = few_shorter s.ids s.rounds len s.in_range s.few_windows le

-- a list of some identifiers more than a window
more_are_few : (m t extra : ℕ) → HasIds m t → HasFewWindows m t →
    length (windows (2 * t + 1 + extra) m) ≤ MAX_WINDOWS * MAX_IDS ^ extra
more_are_few m t zero ids few =
    let same : 2 * t + 1 + zero ≡ 2 * t + 1 = omega arith in
    rw same (few_shorter m t (2 * t + 1) ids few (omega arith))
more_are_few m t (suc extra) ids few =
    let longer : 2 * t + 1 + suc extra ≡ 2 * t + 1 + extra + 1 = omega arith in
    let fewer = more_are_few m t extra ids few in
    let most : m - (2 * t + 1 + extra) ≤ MAX_IDS = omega (arith, ids.few) in
    let all = mul-le (length (windows (2 * t + 1 + extra) m)) (m - (2 * t + 1 + extra)) (MAX_WINDOWS * MAX_IDS ^ extra)
    MAX_IDS fewer most in
    rw (longer, windows_more (2 * t + 1 + extra) m, pow-suc, ← mul_assoc) all

-- the numbers of tuples, and of shorter lists, fit 64 bits
pub few_tuples : (s : Shape) (k : ℕ) → k ≤ 2 * s.rounds + 1 + MAX_EXTRA → length (windows k s.ids) < 2 ^ 64
few_tuples s k le =
    ⊎_elim
    (λ (longer : 2 * s.rounds + 1 < k).
    let extra = k - (2 * s.rounds + 1) in
    let whole : 2 * s.rounds + 1 + extra ≡ k = omega arith in
    let few = rw whole at (more_are_few s.ids s.rounds extra s.in_range s.few_windows) in
    let fits : extra ≤ MAX_EXTRA = omega arith in
    let most : MAX_IDS ^ extra ≤ MAX_IDS ^ MAX_EXTRA = pow-le-pow_right (lit< tt) fits in
    let all = mul-le MAX_WINDOWS (MAX_IDS ^ extra) MAX_WINDOWS (MAX_IDS ^ MAX_EXTRA) (omega arith) most in
    let small : MAX_WINDOWS * MAX_IDS ^ MAX_EXTRA < 2 ^ 64 = lit< tt in
    omega (arith, few, all, small))
    (λ (shorter : k ≤ 2 * s.rounds + 1). omega (arith, few_of_shape s k shorter))
    (cases_lt (2 * s.rounds + 1) k)
