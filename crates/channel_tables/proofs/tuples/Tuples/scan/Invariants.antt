use Rattle.std.proofs.Common.{◌≡◌, ◌+◌, ◌*◌, ◌<◌, Some, slice_get}
use Rattle.win_index.specs.Windows.{IsWindow}
use Rattle.channel_tables.specs.Apart.{extra, tuples, NoneIsBad}
use Rattle.channel_tables.proofs.tuples.Tuples.scan.Given as goal

-- the tuple is the next one, and none before it is bad
abbrev pub invariant-loop-number : goal.invariant-loop-number
invariant-loop-number g l =
    let t = g.W.Windows.table l.self.windows.now in
    (l.number < l.high → slice_get (tuples t l.self.separation) l.number ≡ Some l.tuple)
    × IsWindow (2 * t.rounds + 1 + extra l.self.separation) t.ids l.tuple
    × NoneIsBad t l.self.separation l.low l.number
