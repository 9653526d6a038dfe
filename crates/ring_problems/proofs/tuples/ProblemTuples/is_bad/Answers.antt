use Rattle.std.proofs.Common.{arith}
use Rattle.ring_problems.proofs.Arounds.{tuple_window}
use Rattle.ring_problems.proofs.Matching.{extra_range}
use Rattle.ring_problems.proofs.Suffices.{bad_by_channels, found_is_bad}
use Rattle.ring_problems.proofs.tuples.ProblemTuples.is_bad.Goals as goal

pub channel_from-first-requires-clause-window : goal.channel_from-first-requires-clause-window
channel_from-first-requires-clause-window g c =
    let t = g.W.Windows.table c.args.self.windows.now in
    tuple_window t.ids t.rounds 0 c.args.self.problem.now c.args.tuple.now c.requires (omega arith)

pub channel_from-second-requires-clause-window : goal.channel_from-second-requires-clause-window
channel_from-second-requires-clause-window g c =
    let t = g.W.Windows.table c.args.self.windows.now in
    tuple_window t.ids t.rounds 1 c.args.self.problem.now c.args.tuple.now c.requires
    (extra_range c.args.self.problem.now).0

pub returns : goal.returns
returns g c =
    let t = g.W.Windows.table c.args.self.windows.now in
    found_is_bad c.args.self.problem.now _ _ _ _ c.first_match.result c.is_some.result c.first_match.ensures c.is_some.ensures
    (bad_by_channels t c.args.self.problem.now c.args.tuple.now c.channel_from-first.result c.channel_from-second.result
    c.third_channel-third.result c.channel_from-first.ensures c.channel_from-second.ensures c.third_channel-third.ensures)
