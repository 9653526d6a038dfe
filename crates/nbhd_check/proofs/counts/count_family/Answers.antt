use Rattle.std.proofs.Common.{◌≡◌, ⊎_elim, get_or, ap, ◌≤◌, ℕ, ◌+◌, ◌-◌, ◌*◌, length, drop, ◌∙◌, arith}
use Rattle.std.proofs.lemmas.List.{take_at, get_or-replicate}
use Rattle.std.proofs.lemmas.Bool.{cases_lt}
use Rattle.std.proofs.Math.ListN.{get_or-eq_default, length-replicate, replicate}
use Rattle.nbhd_check.specs.Counts.{IsFamily}
use Rattle.std.proofs.Math.Nat.{mul-le-mul, mul-le-mul_right}
use Rattle.nbhd_check.proofs.FarFree.{family_is, some_product}
use Rattle.nbhd_check.proofs.counts.count_family.Goals.{After-window_number}
use Rattle.nbhd_check.proofs.counts.count_family.Goals as goal

same_items : (n i x : ℕ) → get_or (replicate n x) i x ≡ x
same_items n i x =
    ⊎_elim (get_or-replicate n i x x)
    (λ (past : n ≤ i). get_or-eq_default (replicate n x) x (omega (arith, length-replicate n x))) (cases_lt i n)

-- the family of the windows with these shared identifiers, once their number is known
module _ (c : After-window_number) where
  abbrev count : ℕ
  count = (c.ids.result - length c.args.shared.now) * (c.ids.result - length c.args.shared.now - 1)

  family : IsFamily c.args.table.now c.args.shared.now (c.window_number.result * count) count
  family =
      let item = rw (c.rounds.ensures, c.shape-shape.ensures.rounds, c.shape-shape.ensures.ids) at c.window_number.ensures.item in
      rw (c.ids.ensures, c.shape-shape.ensures.ids, c.requires.shared.size)
      (family_is c.args.table.now c.requires.some c.args.shared.now c.window_number.result item)

pub overflow_mul-first : goal.overflow_mul-first
overflow_mul-first c = omega (arith, (family c).within, c.shape-shape.ensures.table.begun.shape.few_windows)

pub window-requires-clause-below : goal.window-requires-clause-below
window-requires-clause-below c =
    let d = (goal.at.window-requires-clause-below c).After-window_number in
    let others : ℕ = c.ids.result - length c.args.shared.now in
    let size = c.requires.shared.size in
    let enough = c.shape-shape.result.in_range.enough in
    let some = some_product others (others - 1) (omega arith) (omega arith) in
    rw (c.rounds-2.ensures, c.shape-shape.ensures.rounds, c.shape-shape.ensures.ids)
    (omega (arith, (family d).within, some))

pub returns-clause-counts : goal.returns-clause-counts
returns-clause-counts c =
    let d = (goal.at.returns-clause-counts c).After-window_number in
    let cells = c.add_rows.new.cells in
    let written = take_at cells (drop (length cells) c.args.counts.now.cells.items) c.args.counts.now.cells.len
    (c.add_rows.auto.cells ∙ c.count_windows.auto.cells ∙ c.fill.ensures.len ∙ c.deref_mut-cells.ensures.len) in
    (c.window_number.result * count d, (count d, (family d, rw written c.add_rows.ensures)))

pub count_windows-requires-clause-within : goal.count_windows-requires-clause-within
count_windows-requires-clause-within c =
    (c.requires.some, (family (goal.at.count_windows-requires-clause-within c).After-window_number).within)

pub count_windows-requires-clause-empty : goal.count_windows-requires-clause-empty
count_windows-requires-clause-empty c = λ i.
    rw (c.fill.ensures.after (λ y same. same)) (same_items (length c.deref_mut-cells.result.now) i 0)

pub returns-clause-fit : goal.returns-clause-fit
returns-clause-fit c =
    let cells = c.add_rows.new.cells in
    let len = c.add_rows.auto.cells ∙ c.count_windows.auto.cells ∙ c.fill.ensures.len ∙ c.deref_mut-cells.ensures.len in
    let written = take_at cells (drop (length cells) c.args.counts.now.cells.items) c.args.counts.now.cells.len len in
    record {
      room = rw written
          (c.add_rows.auto.cells ∙ c.count_windows.auto.cells ∙ c.fill.ensures.len ∙ ap length
          c.deref_mut-cells.ensures.value ∙ c.requires.fit.room);
      limit = c.requires.fit.limit;
    }

pub add_rows-requires-clause-rows : goal.add_rows-requires-clause-rows
add_rows-requires-clause-rows c = (
  c.args.counts.now.limit,
  c.count_windows.auto.cells ∙ c.fill.ensures.len
      ∙ ap length c.deref_mut-cells.ensures.value ∙ c.requires.fit.room,
)

pub add_rows-requires-clause-few : goal.add_rows-requires-clause-few
add_rows-requires-clause-few c =
    omega (
      arith,
      (family (goal.at.add_rows-requires-clause-few c).After-window_number).within,
      c.shape-shape.ensures.table.begun.shape.few_windows,
    )

pub count_windows-requires-clause-rows : goal.count_windows-requires-clause-rows
count_windows-requires-clause-rows c = λ k d lt.
    let below = c.requires.fit.limit k d lt in
    rw (c.fill.ensures.len ∙ ap length c.deref_mut-cells.ensures.value ∙ c.requires.fit.room)
    (mul-le-mul_right {m = get_or c.args.table.now.entries k d + 2} {n =
    c.args.counts.now.limit + 1} (c.args.table.now.ids + 1) (omega (arith, below)))

pub count_windows-requires-clause-window : goal.count_windows-requires-clause-window
count_windows-requires-clause-window c =
    let rounds_is = c.rounds-2.ensures ∙ c.shape-shape.ensures.rounds in (
      rw (rounds_is, c.shape-shape.ensures.ids) at c.window.ensures.item,
      rw
          (rounds_is, c.shape-shape.ensures.ids) at c.window.ensures.window,
    )

pub overflow_mul-count : goal.overflow_mul-count
overflow_mul-count c =
    let others : ℕ = c.ids.result - length c.args.shared.now in
    let few : others ≤ 1024 = omega (arith, c.ids.ensures, c.shape-shape.result.in_range.few) in
    omega (arith, mul-le-mul {n₁ = others} {m₁ = others - 1} {n₂ = 1024} {m₂ = 1024} few (omega (arith, few)))

pub window_number-requires-clause-window : goal.window_number-requires-clause-window
window_number-requires-clause-window c =
    rw (c.rounds.ensures ∙ c.shape-shape.ensures.rounds, c.shape-shape.ensures.ids) c.requires.shared
