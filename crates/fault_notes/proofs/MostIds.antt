-- With fewer identifiers there are fewer windows, so all numbers up to the greatest make a shape.
use Rattle.std.proofs.Common.{ℕ, zero, suc, ◌+◌, ◌-◌, ◌*◌, ◌≤◌, arith}
use Rattle.std.proofs.lemmas.Nat.{mul-le}
use Rattle.win_index.specs.Falling.{falling}
use Rattle.win_index.specs.Laws.{CountOfWindows}
use Rattle.win_index.specs.ShapeRange.{IsShape}

falling_grows : (k m n : ℕ) → m ≤ n → falling m k ≤ falling n k
falling_grows zero m n le = omega arith
falling_grows (suc k) m n le =
    mul-le (falling m k) (m - k) (falling n k) (n - k) (falling_grows k m n le) (omega (arith, le))

pub shapes_between : CountOfWindows → (t most m : ℕ) → IsShape most t → 2 * t + 2 ≤ m → m ≤ most → IsShape m t
shapes_between count t most m shape enough le =
    let own = count (2 * t + 1) m in
    let all = count (2 * t + 1) most in
    let fewer = falling_grows (2 * t + 1) m most le in
    let few = shape.few_windows in
    record {
      ids = record { enough = enough; few = omega (arith, le, shape.ids.few) };
      few_windows = omega (arith, own, all, fewer, few);
    }
