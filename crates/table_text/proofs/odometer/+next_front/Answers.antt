use Rattle.std.proofs.Common.{◌≡◌, ℕ, ◌≤◌, ◌-◌, ◌+◌, length, take, get_or, sym, ap, ◌∙◌, arith}
use Rattle.std.proofs.lemmas.List.{take-take}
use Rattle.std.proofs.lemmas.List.Edits.{swap_is}
use Rattle.table_text.specs.Orders.{IsOrder, place_of}
use Rattle.table_text.proofs.Orders.{swapped_at, later, only_window, places_kept, places_more, least_place}
use Rattle.table_text.proofs.odometer.+next_front.Goals as goal

pub returns-then-len-eq0-clause-step : goal.returns-then-len-eq0-clause-step
returns-then-len-eq0-clause-step t c =
    let order : IsOrder 0 (length c.args.order.now) c.args.order.now = rw c.if-len-eq0.true at c.requires.ordered in
    rw c.if-len-eq0.true (only_window (length c.args.order.now) c.args.order.now order)

pub overflow_add-places : goal.overflow_add-places
overflow_add-places t c = omega (arith, c.if-place-order.true, c.requires.few)

pub returns-then-place-order-clause-step : goal.returns-then-place-order-clause-step
returns-then-place-order-clause-step t c =
    let k = c.args.len - 1 in
    let order = c.args.order.now in
    let place : ℕ = get_or c.args.places.now k 0 in
    let last : k + 1 ≡ c.args.len = omega arith in
    let is = swapped_at c.args.len place order c.swap.new.self (omega arith) c.requires.within c.requires.ordered
    (c.requires.placed k (omega arith)) c.if-place-order.true
    (c.swap.ensures.after ∙ sym (swap_is order k place 0 (omega (arith, c.requires.room)) c.if-place-order.true)) in
    rw last at is.step

pub returns-then-place-order-clause-places : goal.returns-then-place-order-clause-places
returns-then-place-order-clause-places t c =
    let k = c.args.len - 1 in
    let order = c.args.order.now in
    let place : ℕ = get_or c.args.places.now k 0 in
    let is = swapped_at c.args.len place order c.swap.new.self (omega arith) c.requires.within c.requires.ordered
    (c.requires.placed k (omega arith)) c.if-place-order.true
    (c.swap.ensures.after ∙ sym (swap_is order k place 0 (omega (arith, c.requires.room)) c.if-place-order.true)) in
    let own : place_of k c.swap.new.self ≡ place + 1 = is.place
    ∙ ap (λ n. n + 1) (sym (c.requires.placed k (omega arith))) in
    λ j lt. places_more k (place + 1) c.swap.new.self c.args.places.now (omega (arith, c.requires.room))
    (places_kept k order c.swap.new.self c.args.places.now (λ i small. c.requires.placed i (omega (arith, small))) is.kept)
    own j (omega (arith, lt))

pub next_front-kept-requires : goal.next_front-kept-requires
next_front-kept-requires t c =
    let k = c.args.len - 1 in
    let order = c.carry.ensures.0 in
    let places = places_kept k c.args.order.now c.carry.new.order c.args.places.now
    (λ i small. c.requires.placed i (omega (arith, small))) c.carry.ensures.1 in (
      omega arith,
      record {
        within = omega (arith, order.size, c.requires.within);
        room = omega (arith, c.requires.room);
        few = omega (arith, order.size, c.requires.few);
        ordered = rw order.size order;
        placed = places;
      },
    )

pub returns-clause-step : goal.returns-clause-step
returns-clause-step t c =
    let k = c.args.len - 1 in
    let order = c.args.order.now in
    let last : k + 1 ≡ c.args.len = omega arith in
    let place = c.requires.placed k (omega arith) in
    let full : length order ≤ place_of k order = omega (arith, place, c.if-place-order.false) in
    let step = rw c.carry.ensures.0.size at c.next_front-kept.ensures.step in
    rw last at (later k (length order) order c.next_front-kept.new.order (rw last c.requires.ordered) full
    (record { order = step.order; next = rw c.carry.ensures.1 at step.next }))

pub returns-clause-places : goal.returns-clause-places
returns-clause-places t c =
    let k = c.args.len - 1 in
    let last : k + 1 ≡ c.args.len = omega arith in
    let new = c.next_front-kept.new.order in
    let size = c.next_front-kept.ensures.step.order.size ∙ c.carry.ensures.0.size in
    λ j lt. places_more k c.args.len new c.next_front-kept.new.places (omega (arith, c.requires.room))
    c.next_front-kept.ensures.places
    (least_place k _ new (omega (arith, c.requires.within, size)) c.next_front-kept.ensures.step.order ∙ last) j
    (omega (arith, lt))

pub returns-clause-kept : goal.returns-clause-kept
returns-clause-kept t c =
    let k = c.args.len - 1 in
    let few = c.next_front-kept.ensures.few in
    c.next_front-kept.ensures.kept ∙ sym (take-take _ k c.carry.new.order few)
    ∙ ap (take c.next_front-kept.result) c.carry.ensures.1 ∙ take-take _ k c.args.order.now few
