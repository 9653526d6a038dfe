-- Cells in rows and columns.
use Rattle.std.proofs.Common.{◌≡◌, ℕ, ◌+◌, ◌*◌, ◌<◌, ◌≤◌, ◌&&◌, cond, eqb, List, length, get_or, set, ap, ◌∙◌, arith}
use Rattle.std.proofs.Math.Nat.{mul-le-mul_right, add-mul, one-mul}
use Rattle.std.proofs.lemmas.Bool.Decides.{nat_tests}
use Rattle.std.proofs.lemmas.List.{get_or-set_same, get_or-set_other}
use Rattle.std.proofs.lemmas.Nat.{same_from_place}

pub row_more : (row wide : ℕ) → (row + 1) * wide ≡ row * wide + wide
row_more row wide = add-mul row 1 wide ∙ ap (λ n. row * wide + n) (one-mul wide)

-- a row is within the cells
pub rows_within : (row most w ids len : ℕ) → row ≤ most → w ≡ ids → len ≡ (most + 1) * (ids + 1)
    → (row + 1) * (w + 1) ≤ len
rows_within row most w ids len le w_is len_is =
    let more : row + 1 ≤ most + 1 = omega arith in
    rw (len_is, w_is) (mul-le-mul_right (ids + 1) more)

-- the cells after a write to one of them
pub cell_set :
    (cells : List ℕ) (wide row column v x new : ℕ) → x < wide → column < wide → row * wide + column < length cells
    → get_or (set cells (row * wide + column) new) (v * wide + x) 0
    ≡ cond (eqb v row && eqb x column) new (get_or cells (v * wide + x) 0)
cell_set cells wide row column v x new in_x in_column within =
    let place = same_from_place v x row column wide in_x in_column in
    let same = get_or-set_same cells (row * wide + column) new 0 within in
    grind (arith, nat_tests, place, same, get_or-set_other cells (row * wide + column) (v * wide + x) new 0)

-- the cells after one is added to one of them
pub cell_add : (cells : List ℕ) (wide row column v x : ℕ) → x < wide → column < wide
    → row * wide + column < length cells
    → get_or (set cells (row * wide + column) (get_or cells (row * wide + column) 0 + 1)) (v * wide + x) 0
    ≡ get_or cells (v * wide + x) 0 + cond (eqb v row && eqb x column) 1 0
cell_add cells wide row column v x in_x in_column within =
    let set_is = cell_set cells wide row column v x (get_or cells (row * wide + column) 0 + 1) in_x in_column within in
    grind (arith, nat_tests, set_is)
