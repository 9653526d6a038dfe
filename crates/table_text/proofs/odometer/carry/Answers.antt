use Rattle.std.proofs.Common.{◌-◌, ◌+◌, ◌<◌, length, length-take, arith}
use Rattle.std.proofs.lemmas.Slice.{put_mid-rotated}
use Rattle.table_text.proofs.Orders.{rotated}
use Rattle.table_text.proofs.odometer.carry.Goals as goal

pub returns : goal.returns
returns c =
    let order = c.args.order.now in
    let within : c.args.last < length order =
    omega (arith, length-take (c.args.last + 1) order, c.requires.order.window.size) in
    rotated c.args.last (length order) order _ c.requires.order c.requires.largest
    (put_mid-rotated c.args.last (length order - c.args.last) order c.rotate_left.new.self 0 within (omega arith)
    c.rotate_left.ensures.after)
