use Rattle.std.proofs.Common.{◌≡◌, ◌+◌, ◌*◌, ◌<◌, Some, length, slice_get}
use Rattle.win_index.specs.Windows.{windows, IsWindow}
use Rattle.ring_problems.specs.Problems.{NoneIsBad}
use Rattle.ring_problems.specs.TupleLists.{per_pair}
use Rattle.ring_problems.proofs.pairs.ProblemTuples+Table.least_from.Given as goal

-- the identifiers are the next ones, and no tuple that begins with those before is bad
abbrev pub invariant-loop-number : goal.invariant-loop-number
invariant-loop-number l =
    let t = l.self.windows.now in
    (l.number < length (windows (2 * t.rounds + 1 + 1) t.ids)
    → slice_get (windows (2 * t.rounds + 1 + 1) t.ids) l.number ≡ Some l.pair)
    × IsWindow (2 * t.rounds + 1 + 1) t.ids l.pair
    × NoneIsBad t l.self.problem.now 0 (l.number * per_pair t.ids t.rounds l.self.problem.now)
