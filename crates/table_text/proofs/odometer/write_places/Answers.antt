use Rattle.std.proofs.Common.{◌+◌, ◌<◌, take, get_or, sym, ap, arith}
use Rattle.win_index.proofs.Windows.{distinct_take, unused_below, window_within}
use Rattle.table_text.proofs.Orders.{places_more}
use Rattle.table_text.proofs.odometer.write_places.Goals.{After-place_among_unused-place}
use Rattle.table_text.proofs.odometer.write_places.Goals as goal

pub loop-index-init : goal.loop-index-init
loop-index-init c j lt = absurd (omega (arith, lt))

pub place_among_unused-place-requires : goal.place_among_unused-place-requires
place_among_unused-place-requires c = distinct_take c.loop-index.index c.args.window.now c.requires.window.2.distinct

-- the index and the place are small
few : (c : After-place_among_unused-place) → c.loop-index.index + 1 + c.place_among_unused-place.result < 65536
few c =
    let index = c.loop-index.index in
    let window = c.requires.window.2 in
    omega (
      arith,
      window_within _ _ c.args.window.now window,
      c.requires.window.1,
      c.place_among_unused-place.ensures,
      unused_below (take index c.args.window.now) (get_or c.args.window.now index 0)
          (distinct_take index c.args.window.now window.distinct),
      window.below index 0 c.loop-index-test.true,
    )

pub overflow_cast-places : goal.overflow_cast-places
overflow_cast-places c = omega (arith, few c)

pub overflow_cast-places-in-loop-index : goal.overflow_cast-places-in-loop-index
overflow_cast-places-in-loop-index c = omega (arith, few c)

pub overflow_add-places-in-loop-index : goal.overflow_add-places-in-loop-index
overflow_add-places-in-loop-index c = omega (arith, few c)

pub loop-index-preserved : goal.loop-index-preserved
loop-index-preserved c =
    places_more c.loop-index.index (c.loop-index.index + 1 + c.place_among_unused-place.result) c.args.window.now c.loop-index.places
    (omega (arith, c.requires.len, c.loop-index.auto.places, c.loop-index-test.true)) c.loop-index.invariant
    (ap (λ n. c.loop-index.index + 1 + n) (sym c.place_among_unused-place.ensures))

pub returns : goal.returns
returns c j lt = c.loop-index.invariant j (omega (arith, lt, c.loop-index-test.false, c.loop-index.auto.index-end))
