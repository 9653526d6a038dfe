use Rattle.std.proofs.Common.{◌+◌, arith}
use Rattle.win_index.proofs.Numbers.{windows_more}
use Rattle.win_index.proofs.arrangement.Arrangements.count.Goals as goal

pub overflow_mul-count : goal.overflow_mul-count
overflow_mul-count c =
    let place = c.loop-place.place in
    rw (c.from.ensures, c.loop-place.invariant, ← windows_more place c.args.self.ids)
    (omega (arith, c.args.self.few (place + 1)))
