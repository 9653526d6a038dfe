use Rattle.std.proofs.Common.{◌≡◌, ℕ, List, ◌+◌, ◌-◌, ◌*◌, ◌≤◌, length, get_or, set, length-set, ◌∙◌, arith}
use Rattle.nbhd_check.proofs.Cells.{cell_add, row_more}
use Rattle.nbhd_check.proofs.counts.count_window.Goals as goal

pub returns-clause-counted : goal.returns-clause-counted
returns-clause-counted c = λ v x lt.
    let w : ℕ = c.args.wide in
    let row : ℕ = c.args.row in
    let zero = c.args.cells.now in
    let within : row * w + w ≤ length zero = omega (arith, c.requires.within, row_more row w) in
    let one : List ℕ = set zero (row * w + c.args.last.0) (get_or zero (row * w + c.args.last.0) 0 + 1) in
    let one_len : length one ≡ length zero = length-set zero _ _ in
    let two : List ℕ = set one (row * w + c.args.last.1) (get_or one (row * w + c.args.last.1) 0 + 1) in
    let two_len : length two ≡ length zero = length-set one _ _ ∙ one_len in
    let columns = c.requires.columns in
    let first = cell_add zero w row c.args.last.0 v x lt (omega (arith, columns.0))
    (omega (arith, columns.0, within)) in
    let second = cell_add one w row c.args.last.1 v x lt (omega (arith, columns.1))
    (omega (arith, columns.1, within, one_len)) in
    let third = cell_add two w row (w - 1) v x lt (omega (arith, columns.0))
    (omega (arith, columns.0, within, two_len)) in
    let end : row * w + (w - 1) ≡ row * w + w - 1 = omega (arith, columns.0) in
    omega (arith, first, second, rw end at third)
