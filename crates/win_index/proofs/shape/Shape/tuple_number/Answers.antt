use Rattle.std.proofs.Common.{◌+◌, ◌*◌, sym, arith}
use Rattle.win_index.proofs.Positions.{number_of_none}
use Rattle.win_index.proofs.Sizes.{window_within}
use Rattle.win_index.proofs.shape.Shape.tuple_number.Goals as goal

pub returns-then-len-self : goal.returns-then-len-self
returns-then-len-self c =
    let shape = c.args.self.now in
    let len = 2 * shape.rounds + 1 + c.args.extra in
    sym (number_of_none len shape.ids c.args.list.now (λ window.
    absurd (omega (arith, window_within len shape.ids c.args.list.now window))))
