use Rattle.std.proofs.Common.{◌+◌, ◌*◌, sym, arith}
use Rattle.win_index.proofs.FrontPlaces.{placed}
use Rattle.win_index.proofs.shape.Shape.bucket_places.Goals as goal

pub returns : goal.returns
returns c =
    let own = placed (2 * c.args.below + 1 + 1) (2 * c.args.below + 3) c.args.self.now.ids c.args.window.now
    (omega arith) (omega arith) c.requires.window in
    record {
      first = sym (rw c.rest_of-rest.ensures.value at c.place_among_unused.ensures);
      second = sym (rw c.rest_of-rest.ensures.value at c.place_among_unused-2.ensures);
      end = omega (arith, own.all);
    }
