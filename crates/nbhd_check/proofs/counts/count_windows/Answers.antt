use Rattle.std.proofs.Common.{◌≡◌, ℕ, ◌+◌, ◌-◌, ◌*◌, ◌<◌, slice_get, ap, ◌∙◌, arith}
use Rattle.channel_tables.specs.Tables.{windows_of}
use Rattle.channel_tables.proofs.Tables.{next_item, window_of_shape}
use Rattle.nbhd_check.specs.Counts.{shared_len}
use Rattle.nbhd_check.proofs.HeldCounts.{window_counted}
use Rattle.nbhd_check.proofs.counts.count_windows.Goals as goal

pub loop-number-preserved : goal.loop-number-preserved
loop-number-preserved c =
    let t = c.args.table.now in
    let ids_is : c.ids.result ≡ t.ids = c.ids.ensures ∙ c.shape-shape.ensures.ids in
    let place_is : 2 * (c.rounds.result - 1) + 1 ≡ shared_len t =
    ap (λ r. 2 * (r - 1) + 1) (c.rounds.ensures ∙ c.shape-shape.ensures.rounds) in
    let number = c.loop-number.number in
    let n : ℕ = number - c.args.first in
    let here : c.args.first + n ≡ number = omega arith in
    let more : number + 1 - c.args.first ≡ n + 1 = omega arith in
    let item = c.loop-number.invariant.0 c.loop-number-test.true in
    let step = rw (c.rounds-in-loop-number.ensures, c.shape-shape.ensures.rounds, c.shape-shape.ensures.ids) at c.next_window.ensures in (
      λ next. next_item t number c.next_window.result c.loop-number.window c.next_window.new.window step item
          (omega (arith, next, c.requires.within.1)),
      step.window,
      λ v x lt within.
          let in_wide : x < c.ids.result + 1 = omega arith in
          let last : t.ids + 1 - 1 ≡ t.ids = omega arith in
          let old = c.loop-number.invariant.2 v x lt (omega (arith, within)) in
          let three = rw (ids_is, place_is, last) at (c.count_window.ensures.counted v x in_wide) in
          let counted = rw (here, ← c.entry.ensures.value) at
          (window_counted t c.args.first n x v c.loop-number.window c.requires.within.0
          (ap (slice_get (windows_of t)) here ∙ item)) in
          rw more (omega (arith, old, three, counted)),
      λ i. omega (arith, c.loop-number.invariant.3 i, c.count_window.ensures.few i),
    )

pub count_window-requires-clause-columns : goal.count_window-requires-clause-columns
count_window-requires-clause-columns c =
    let own = c.loop-number.invariant.1 in
    let size = own.size in
    let ids_is = c.ids.ensures ∙ c.shape-shape.ensures.ids in
    let rounds_is = c.rounds.ensures ∙ c.shape-shape.ensures.rounds in
    let some = c.requires.within.0 in
    let first : ℕ = 2 * (c.rounds.result - 1) + 1 in (
      omega (arith, own.below first 0 (omega (arith, size, rounds_is, some)), ids_is),
      omega (arith, own.below (first + 1) 0 (omega (arith, size, rounds_is, some)), ids_is),
    )

pub count_window-requires-clause-few : goal.count_window-requires-clause-few
count_window-requires-clause-few c = λ i.
    let few = c.shape-shape.ensures.table.begun.shape.few_windows in
    omega (arith, few, c.requires.within.1, c.loop-number-test.true, c.loop-number.invariant.3 i)

pub count_window-requires-clause-within : goal.count_window-requires-clause-within
count_window-requires-clause-within c =
    let table = c.shape-shape.ensures.table in
    let row = c.requires.rows c.loop-number.number 0
    (omega (arith, table.size, c.requires.within.1, c.loop-number-test.true)) in
    let two : c.entry.result + 1 + 1 ≡ c.entry.result + 2 = omega arith in
    rw (two, c.entry.ensures.value, c.ids.ensures, c.shape-shape.ensures.ids, c.loop-number.auto.cells) row

pub loop-number-init : goal.loop-number-init
loop-number-init c =
    let none : c.args.first - c.args.first ≡ 0 = omega arith in (
      λ _. c.requires.window.0,
      c.requires.window.1,
      λ v x lt within. rw none (c.requires.empty (v * (c.args.table.now.ids + 1) + x)),
      λ i. omega (arith, c.requires.empty i),
    )

pub next_window-requires-clause-window : goal.next_window-requires-clause-window
next_window-requires-clause-window c =
    window_of_shape c.args.table.now c.rounds-in-loop-number.result c.shape-shape.result.ids c.loop-number.window
    (c.rounds-in-loop-number.ensures ∙ c.shape-shape.ensures.rounds) c.shape-shape.ensures.ids c.loop-number.invariant.1

pub returns : goal.returns
returns c = λ v x lt within.
    let all : c.loop-number.number - c.args.first ≡ c.args.count = omega (arith, c.loop-number-test.false) in
    rw (← all) (c.loop-number.invariant.2 v x lt within)
