use Rattle.std.proofs.Common.{◌≡◌, ◌==◌, ◌≢◌, ℕ, zero, suc, List, length-set, ◌+◌, ◌-◌, ◌*◌, ◌/◌, ◌<◌, ◌≤◌, get_or, set}
use Rattle.std.proofs.Common.{sym, ap, ltb, length, ◌∙◌, arith, ⊎_elim}
use Rattle.std.proofs.Math.Nat.{div-lt_iff_lt-mul, div-mul-le_self, lt-div-mul-add, mul-le-mul_right}
use Rattle.std.proofs.lemmas.Bool.{cases_eq}
use Rattle.std.proofs.lemmas.Bool.Decides.{nat_tests}
use Rattle.std.proofs.lemmas.List.{get_or-set_same, get_or-set_other}
use Rattle.std.proofs.lemmas.Nat.{same_from_place}
use Rattle.channel_tables.specs.Tables.{ChannelTable}
use Rattle.nbhd_check.specs.Counts.{held_count}
use Rattle.nbhd_check.proofs.Cells.{row_more}
use Rattle.nbhd_check.proofs.HeldCounts.{below_step, count_few}
use Rattle.nbhd_check.proofs.counts.add_rows.Goals.{In-loop-at}
use Rattle.nbhd_check.proofs.counts.add_rows.Goals as goal

-- the row and the column of a cell after the first row, and of the cell above it
record Place (cell wide len : ℕ) : Type 0 where
  row : ℕ
  column : ℕ
  in_row : column < wide
  some : 1 ≤ row
  at_cell : row * wide + column ≡ cell
  above : (row - 1) * wide + column ≡ cell - wide
  within : (row + 1) * wide ≤ len

place_of : (cell wide rows len : ℕ) → 1 ≤ wide → wide ≤ cell → cell < len → len ≡ rows * wide → Place cell wide len
place_of cell wide rows len some from below len_is =
    let row : ℕ = cell / wide in
    let low : row * wide ≤ cell = div-mul-le_self cell wide in
    let high : cell < row * wide + wide = lt-div-mul-add {a = cell} some in
    let few : row < rows = (div-lt_iff_lt-mul some).1 (omega (arith, below, len_is)) in
    let later : 1 ≤ row = ⊎_elim (λ (none : row ≡ 0). absurd (omega (arith, high, from, ap (λ n. n * wide) none)))
    (λ other. omega (arith, other)) (cases_eq row 0) in
    let back : row - 1 + 1 ≡ row = omega (arith, later) in
    let more : row * wide ≡ (row - 1) * wide + wide = ap (λ n. n * wide) (sym back) ∙ row_more (row - 1) wide in
    record {
      row = row;
      column = cell - row * wide;
      in_row = omega (arith, low, high);
      some = later;
      at_cell = omega (arith, low);
      above = omega (arith, low, more);
      within = omega (arith, mul-le-mul_right {m = row + 1} {n = rows} wide (omega (arith, few)), len_is);
    }

-- the sum of a cell and the one above it
module _ (c : In-loop-at) where
  abbrev wide : ℕ
  wide = c.ids.result + 1

  place : Place c.loop-at.at wide (length c.loop-at.cells)
  place =
      place_of c.loop-at.at wide (c.requires.rows.0 + 1) (length c.loop-at.cells) (omega arith) c.loop-at.auto.at
      (omega (arith, c.loop-at-test.true, c.loop-at.auto.cells))
      (c.loop-at.auto.cells ∙ c.requires.rows.1
      ∙ ap (λ n. (c.requires.rows.0 + 1) * (n + 1)) (sym (c.ids.ensures ∙ c.shape.ensures.ids)))

  sum : get_or c.loop-at.cells c.loop-at.at 0 + get_or c.loop-at.cells (c.loop-at.at - wide) 0
      ≡ held_count c.args.table.now c.args.first c.args.count place.column (λ channel. ltb channel place.row)
  sum =
      let here = c.loop-at.invariant.1 place.row place.column place.in_row (omega (arith, place.at_cell)) place.within in
      let before = c.loop-at.invariant.0 (place.row - 1) place.column place.in_row
      (omega (arith, place.above, c.loop-at.auto.at)) in
      omega (arith, rw place.at_cell at here, rw place.above at before, below_step c.args.table.now c.args.first c.args.count place.column place.row place.some)

pub overflow_add-cells : goal.overflow_add-cells
overflow_add-cells c =
    let d = (goal.at.overflow_add-cells c).In-loop-at in
    omega (arith, sum d, count_few c.args.table.now c.args.first c.args.count (place d).column (λ channel. ltb channel (place d).row), c.requires.few)

-- the cells of the first row count nothing
no_channel : (channel : ℕ) → (0 == channel + 1) ≡ ltb channel 0
no_channel channel = grind (arith, nat_tests)

first_row : (t : ChannelTable) (first count w v x : ℕ) (cells : List ℕ) → v * w + x < w → w ≤ length cells
    → ((v + 1) * w ≤ length cells
    → get_or cells (v * w + x) 0 ≡ held_count t first count x (λ channel. v == channel + 1))
    → get_or cells (v * w + x) 0 ≡ held_count t first count x (λ channel. ltb channel v)
first_row t first count w zero x cells before some counted =
    counted (omega (arith, some)) ∙ (λ q. held_count t first count x (λ channel. no_channel channel q))
first_row t first count w (suc v) x cells before some counted = absurd (omega (arith, before, row_more v w))

pub loop-at-init : goal.loop-at-init
loop-at-init c =
    let t = c.args.table.now in
    let cells = c.args.cells.now in
    let w : ℕ = c.ids.result + 1 in
    let ids_is = c.ids.ensures ∙ c.shape.ensures.ids in
    let counted : (v x : ℕ) → x < w → (v + 1) * w ≤ length cells
    → get_or cells (v * w + x) 0
    ≡ held_count t c.args.first c.args.count x (λ channel. v == channel + 1) = λ v x lt within.
    (λ q. get_or cells (v * (ids_is q + 1) + x) 0)
    ∙ c.requires.counted v x (omega (arith, lt, ids_is)) (rw ids_is at within) in
    let some : w ≤ length cells = omega (arith, c.requires.rows.1, row_more c.requires.rows.0 (t.ids + 1), ids_is) in (
      λ v x lt before. first_row t c.args.first c.args.count w v x cells before some (counted v x lt),
      λ v x lt from within. counted v x lt within,
    )

pub loop-at-preserved : goal.loop-at-preserved
loop-at-preserved c =
    let d = (goal.at.loop-at-preserved c).In-loop-at in
    let p = place d in
    let cells = c.loop-at.cells in
    let cell = c.loop-at.at in
    let below : cell < length cells = omega (arith, c.loop-at-test.true, c.loop-at.auto.cells) in
    let new : ℕ = get_or cells cell 0 + get_or cells (cell - wide d) 0 in
    let len : length (set cells cell new) ≡ length cells = length-set cells cell new in
    let other = λ (v x : ℕ) (not : v * wide d + x ≢ cell). get_or-set_other cells cell (v * wide d + x) new 0 not in (
      λ v x lt before. ⊎_elim
          (λ (same : v * wide d + x ≡ cell).
          let are = same_from_place v x p.row p.column (wide d) lt p.in_row (same ∙ sym p.at_cell) in
          ap (λ n. get_or (set cells cell new) n 0) same ∙ get_or-set_same cells cell new 0 below ∙ sum d
          ∙ (λ q. held_count c.args.table.now c.args.first c.args.count (sym are.1 q) (λ channel. ltb channel (sym are.0 q))))
          (λ not. other v x not ∙ c.loop-at.invariant.0 v x lt (omega (arith, before, not)))
          (cases_eq (v * wide d + x) cell),
      λ v x lt from within. other v x (λ e. omega (arith, e, from))
          ∙ c.loop-at.invariant.1 v x lt (omega (arith, from)) (rw len at within),
    )
