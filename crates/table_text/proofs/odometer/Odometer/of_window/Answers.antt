use Rattle.std.proofs.Common.{◌≡◌, ◌+◌, ◌-◌, length, length-take-le, take, ap, subst, arith}
use Rattle.win_index.specs.Windows.{IsWindow}
use Rattle.table_text.proofs.Odometers.{shows_window}
use Rattle.table_text.proofs.odometer.Odometer.of_window.Goals as goal

pub returns : goal.returns
returns c =
    let window = c.args.window.now in
    let k = length window - 1 in
    let len : length window ≡ k + 1 = omega (arith, c.requires.len.0) in
    let size : length (take k window) ≡ k = length-take-le k window (omega (arith, len)) in
    shows_window k (length c.args.pieces.now) (k + c.place_among_unused.result) window c.write_order.new.order c.write_places.new.places c.show.new.self c.requires.pieces.1
    (omega (arith, c.requires.len.1, len))
    (subst (λ n. IsWindow n (length c.args.pieces.now) window) len c.requires.window)
    (rw size at c.write_order.ensures.order) (rw size at c.write_order.ensures.window)
    (rw size at c.write_places.ensures)
    (ap (λ n. k + n) c.place_among_unused.ensures) c.show.ensures.texts c.show.ensures.text
