use Rattle.std.proofs.Common.{◌≡◌, ◌+◌, ◌-◌, ◌*◌, slice_get, Some, ap, subst, arith}
use Rattle.win_index.specs.Falling.{falling}
use Rattle.win_index.specs.Windows.{windows}
use Rattle.win_index.proofs.BucketPrefixNumbers.{prefix_number}
use Rattle.win_index.proofs.shape.Shape.first_part_number.Goals as goal

pub returns : goal.returns
returns c = λ window at'.
    let m = c.args.self.now.ids in
    let low = c.args.below in
    let long : 2 * low + 3 ≡ 2 * low + 1 + 2 = omega arith in
    let free : m - (2 * low + 1) ≡ m - 2 * low - 1 = omega arith in
    let count : falling (m - 2 * low - 1) 2 ≡ (m - 2 * low - 1) * (m - 2 * low - 1 - 1) =
    ap (λ n. n * (m - 2 * low - 1 - 1)) (omega arith) in
    rw (free, count) at
    (prefix_number (2 * low + 1) 2 m c.args.number window
    (subst (λ k. slice_get (windows k m) c.args.number ≡ Some window) long at'))
