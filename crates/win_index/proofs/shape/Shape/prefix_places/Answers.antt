use Rattle.std.proofs.Common.{◌≡◌, ◌+◌, ◌-◌, ◌*◌, arith}
use Rattle.win_index.proofs.shape.Shape.prefix_places.Goals as goal

pub returns : goal.returns
returns c = λ window is has.
    let size = c.bucket_prefixes.ensures in
    let low = c.args.below in
    let long : 2 * low + 3 ≡ 2 * low + 2 + 1 = omega arith in
    let short : 2 * low + 2 - 1 ≡ 2 * low + 1 = omega arith in
    rw short at (rw (size.len, size.ids) at c.places.ensures window (rw long at is) has)
