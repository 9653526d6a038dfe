use Rattle.std.proofs.Common.{◌+◌, ◌*◌}
use Rattle.win_index.proofs.Sizes.{window_within}
use Rattle.win_index.proofs.shape.Shape.after.Goals as goal

pub lists-requires-clause-short : goal.lists-requires-clause-short
lists-requires-clause-short c =
    let shape = c.args.self.now in
    window_within (2 * shape.rounds + 1 + c.args.extra) shape.ids c.args.tuple.now c.requires.tuple
