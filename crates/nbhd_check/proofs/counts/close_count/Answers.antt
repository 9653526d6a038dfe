use Rattle.std.proofs.Common.{◌≡◌, ℕ, ◌+◌, ◌*◌, ◌^◌, ◌<◌, ◌≤◌, nat_lt, min, length, get_or, ◌∙◌, arith, refl}
use Rattle.nbhd_check.specs.Counts.{held_count}
use Rattle.std.proofs.Math.Nat.{mul-le-mul}
use Rattle.nbhd_check.proofs.Cells.{row_more, rows_within}
use Rattle.nbhd_check.proofs.HeldCounts.{close_of_sums, entries_below}
use Rattle.nbhd_check.proofs.counts.close_count.Goals.{After-deref-cells}
use Rattle.nbhd_check.proofs.counts.close_count.Goals as goal

-- a row up to the last one, in the counts
module _ (c : After-deref-cells) (v : ℕ) (le : v ≤ c.args.counts.now.limit) where
  inside : v * (c.ids.result + 1) + c.args.x < length c.deref-cells.result.now
  inside =
      let ids = c.args.table.now.ids in
      let row = rows_within v c.args.counts.now.limit ids ids
      (length c.args.counts.now.cells.items) le refl c.requires.fit.room in
      rw (c.ids.ensures ∙ c.shape.ensures.ids, c.deref-cells.ensures.value)
      (omega (arith, row, row_more v (ids + 1), c.requires.x))

  small : v < 2 ^ 32 → v * (c.ids.result + 1) + c.args.x < 2 ^ 43
  small few =
      let ids_few = c.shape.ensures.table.begun.shape.ids.few in
      let row : v * (c.ids.result + 1) ≤ 2 ^ 32 * 1025 =
      mul-le-mul {n₁ = v} {m₁ = c.ids.result + 1} {n₂ = 2 ^ 32} {m₂ = 1025} (omega (arith, few))
      (omega (arith, ids_few, c.ids.ensures, c.shape.ensures.ids)) in
      omega (arith, row, ids_few, c.requires.x)

pub offset_bounds-cells-high : goal.offset_bounds-cells-high
offset_bounds-cells-high c =
    omega (arith, small c c.min-high.result (omega (arith, c.min-high.ensures)) (omega (arith, c.min-high.type_inv)))

pub bounds-cells-high : goal.bounds-cells-high
bounds-cells-high c = inside (goal.at.bounds-cells-high c).After-deref-cells c.min-high.result
    (omega (arith, c.min-high.ensures))

pub offset_bounds-cells-low : goal.offset_bounds-cells-low
offset_bounds-cells-low c =
    omega (
      arith,
      small (goal.at.offset_bounds-cells-low c).After-deref-cells c.saturating_sub-low.result
          (omega (arith, c.saturating_sub-low.ensures, c.requires.some, c.requires.channel))
          (omega (arith, c.saturating_sub-low.type_inv)),
    )

pub bounds-cells-low : goal.bounds-cells-low
bounds-cells-low c =
    inside (goal.at.bounds-cells-low c).After-deref-cells c.saturating_sub-low.result
    (omega (arith, c.saturating_sub-low.ensures, c.requires.some, c.requires.channel))

pub returns : goal.returns
returns c = λ first n sums.
    let t = c.args.table.now in
    let limit = c.args.counts.now.limit in
    let ids_is : c.ids.result ≡ t.ids = c.ids.ensures ∙ c.shape.ensures.ids in
    let high_is : c.min-high.result ≡ min (c.args.channel + c.args.distance) limit =
    omega (arith, c.min-high.ensures, c.saturating_add.ensures) in
    let read : (v : ℕ) → v ≤ limit
    → get_or c.deref-cells.result.now (v * (c.ids.result + 1) + c.args.x) 0
    ≡ held_count t first n c.args.x (λ channel. nat_lt channel v) = λ v le.
    (λ q. get_or (c.deref-cells.ensures.value q) (v * (ids_is q + 1) + c.args.x) 0)
    ∙ sums v c.args.x (omega (arith, c.requires.x))
    (rows_within v limit t.ids t.ids (length c.args.counts.now.cells.items) le refl c.requires.fit.room) in
    rw (c.saturating_sub.ensures, read c.min-high.result (omega (arith, c.min-high.ensures)), read c.saturating_sub-low.result (omega (arith, c.saturating_sub-low.ensures, c.requires.some, c.requires.channel)))
    (close_of_sums t first n c.args.x c.args.channel c.args.distance c.saturating_sub-low.result c.min-high.result limit c.requires.some
    (entries_below t.entries limit (omega (arith, c.requires.channel)) c.requires.fit.limit) c.saturating_sub-low.ensures high_is)
