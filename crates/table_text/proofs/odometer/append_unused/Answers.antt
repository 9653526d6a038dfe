use Rattle.std.proofs.Common.{◌≡◌, ◌≤◌, false, length, length-append, length-set, [], ◌∷◌, ◌++◌, take, take_all, sym}
use Rattle.std.proofs.Common.{ap, ◌∙◌, arith}
use Rattle.win_index.specs.Windows.{is_used, unused}
use Rattle.win_index.proofs.Windows.{unused_left}
use Rattle.table_text.proofs.Orders.{first_filled, filled_more, order_of, unused_fit, unused_more, unused_same}
use Rattle.table_text.proofs.odometer.append_unused.Goals.{Then-not-contains, Joined-not-contains}
use Rattle.table_text.proofs.odometer.append_unused.Goals.{then-not-contains, else-not-contains}
use Rattle.table_text.proofs.odometer.append_unused.Goals as goal

-- the window lacks this number, and there is a cell for it
free : (c : Then-not-contains) → is_used (take c.args.front c.args.order.now) c.loop-id.id-counter ≡ false
free c =
    let inv = c.loop-id.invariant in
    let front = first_filled c.args.front c.loop-id.filled _ _ c.loop-id.order c.requires.front.size
    (omega (arith, inv.filled)) inv.front in
    ap (λ l. is_used l c.loop-id.id-counter) (sym front) ∙ sym c.contains.ensures.value ∙ c.if-not-contains.true

pub bounds-order-filled : goal.bounds-order-filled
bounds-order-filled c =
    let inv = c.loop-id.invariant in
    omega (
      arith,
      inv.filled,
      inv.size,
      unused_fit c.args.front _ c.loop-id.id-counter _ c.requires.front c.loop-id-test.true (free c),
    )

-- the window has this number or lacks it, as the test says
tested : (c : Joined-not-contains) →
    is_used (take c.args.front c.args.order.now) c.loop-id.id-counter ≡ c.contains.result
tested c =
    let inv = c.loop-id.invariant in
    let front = first_filled c.args.front c.loop-id.filled _ _ c.loop-id.order c.requires.front.size
    (omega (arith, inv.filled)) inv.front in
    ap (λ l. is_used l c.loop-id.id-counter) (sym front) ∙ sym c.contains.ensures.value

pub loop-id-preserved : goal.loop-id-preserved
loop-id-preserved c =
    let inv = c.loop-id.invariant in
    let id = c.loop-id.id-counter in
    let filled = c.loop-id.filled in
    let order = c.loop-id.order in
    let front = take c.args.front c.args.order.now in
    elim c.if-not-contains.branch [
      | then-not-contains w ↦
          let lacks : is_used front id ≡ false = tested c ∙ w.if-not-contains.true in
          let fits = unused_fit c.args.front _ id front c.requires.front c.loop-id-test.true lacks in
          let more = unused_more id front lacks in
          record {
            size = ap length w.order-is ∙ length-set order filled id ∙ inv.size;
            filled = omega (arith, w.filled-is, inv.filled, ap length more, length-append (unused id front) (id ∷ []));
            front = (λ i. take (w.filled-is i) (w.order-is i))
                ∙ filled_more id filled front order (omega (arith, inv.filled, inv.size, fits)) lacks inv.front;
          }
      | else-not-contains w ↦
          let same = unused_same id front (tested c ∙ w.if-not-contains.false) in
          record {
            size = ap length w.order-is ∙ inv.size;
            filled = omega (arith, w.filled-is, inv.filled, ap length same);
            front = (λ i. take (w.filled-is i) (w.order-is i)) ∙ inv.front ∙ ap (λ l. front ++ l) (sym same);
          }
    ]

pub returns-clause-order : goal.returns-clause-order
returns-clause-order c =
    let inv = c.loop-id.invariant in
    let m = length c.args.order.now in
    let front = take c.args.front c.args.order.now in
    let all : c.loop-id.id-counter ≡ m = omega (arith, c.loop-id-test.false, c.loop-id.auto.id-counter-end) in
    let window = c.requires.front in
    let full : length c.loop-id.order ≤ c.loop-id.filled =
    omega (
      arith,
      inv.size,
      inv.filled,
      ap (λ n. length (unused n front)) all,
      unused_left window,
    ) in
    (order_of c.args.front m front c.loop-id.order window
    (sym (take_all c.loop-id.filled c.loop-id.order full) ∙ inv.front ∙ ap (λ n. front ++ unused n front) all)).0

pub returns-clause-kept : goal.returns-clause-kept
returns-clause-kept c =
    let inv = c.loop-id.invariant in
    first_filled c.args.front c.loop-id.filled _ _ c.loop-id.order c.requires.front.size (omega (arith, inv.filled))
    inv.front
