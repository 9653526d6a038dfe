use Rattle.std.proofs.Common.{◌*◌}
use Rattle.ring_problems.proofs.Thirds.{front_window}
use Rattle.ring_problems.proofs.pairs.ProblemTuples+Table.thirds.Goals as goal

pub bucket_start-requires-clause-front : goal.bucket_start-requires-clause-front
bucket_start-requires-clause-front c =
    rw (c.rounds.ensures, c.shape-shape.ensures.rounds, c.shape-shape.ensures.ids)
    (front_window (2 * c.args.self.windows.now.rounds) c.args.self.windows.now.ids c.args.pair.now c.requires)

pub place_among_unused-requires : goal.place_among_unused-requires
place_among_unused-requires c =
    (front_window (2 * c.args.self.windows.now.rounds) c.args.self.windows.now.ids c.args.pair.now
    c.requires).distinct
