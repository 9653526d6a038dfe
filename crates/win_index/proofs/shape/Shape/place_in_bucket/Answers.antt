use Rattle.std.proofs.Common.{◌≡◌, ◌+◌, ◌*◌, arith}
use Rattle.win_index.proofs.FrontPlaces.{placed}
use Rattle.win_index.proofs.shape.Shape.place_in_bucket.Goals as goal

pub returns-clause-inside : goal.returns-clause-inside
returns-clause-inside c =
    let k = 2 * c.args.below + 1 + 1 in
    let own = placed k (2 * c.args.below + 3) c.args.self.now.ids c.args.window.now (omega arith) (omega arith)
    c.requires.window in
    let last : k ≡ 2 * c.args.below + 2 = omega arith in
    rw (c.place_among_unused.ensures, c.rest_of.ensures.value, ← last) own.inside
