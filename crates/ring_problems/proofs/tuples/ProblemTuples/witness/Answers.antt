use Rattle.std.proofs.Common.{arith}
use Rattle.std.proofs.lemmas.Option.{slice_get_within}
use Rattle.ring_problems.specs.Problems.{tuples}
use Rattle.ring_problems.proofs.Suffices.{least_is_matched, window_there}
use Rattle.ring_problems.proofs.tuples.ProblemTuples.witness.Goals as goal

pub write_around-requires-clause-below : goal.write_around-requires-clause-below
write_around-requires-clause-below g c =
    slice_get_within (tuples (g.W.Windows.table c.args.self.windows.now) c.args.self.problem.now) c.args.number c.requires.0 c.requires.1.item

pub channel_from-first-requires-clause-window : goal.channel_from-first-requires-clause-window
channel_from-first-requires-clause-window g c =
    let t = g.W.Windows.table c.args.self.windows.now in
    window_there t 0 _ _ c.write_around.ensures.ring (c.write_around.ensures.windows 0 (omega arith))

pub channel_from-second-requires-clause-window : goal.channel_from-second-requires-clause-window
channel_from-second-requires-clause-window g c =
    let t = g.W.Windows.table c.args.self.windows.now in
    window_there t 1 _ _ c.write_around.ensures.ring (c.write_around.ensures.windows 1 (omega arith))

pub channel_from-third-requires-clause-window : goal.channel_from-third-requires-clause-window
channel_from-third-requires-clause-window g c =
    let t = g.W.Windows.table c.args.self.windows.now in
    window_there t 2 _ _ c.write_around.ensures.ring (c.write_around.ensures.windows 2 (omega arith))

pub unreachable-requires : goal.unreachable-requires
unreachable-requires g c =
    c.in_default.ensures
    (least_is_matched (g.W.Windows.table c.args.self.windows.now) c.args.self.problem.now c.args.number c.channel_from-first.result
    c.channel_from-second.result c.channel_from-third.result _ c.requires.0 _ c.requires.1 c.write_around.ensures.item
    c.write_around.ensures.windows c.channel_from-first.ensures c.channel_from-second.ensures c.channel_from-third.ensures)
