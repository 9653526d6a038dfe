use Rattle.std.proofs.Common.{◌≡◌, ◌+◌, ◌*◌, length}
use Rattle.ring_problems.specs.Patterns.{extra}
use Rattle.ring_problems.specs.Problems.{NoneIsBad}
use Rattle.ring_problems.proofs.tuples.ProblemTuples.least_bad.Given as goal

-- no tuple before this one is bad
abbrev pub invariant-loop-number : goal.invariant-loop-number
invariant-loop-number g l =
    let t = g.W.Windows.table l.self.windows.now in
    (length l.tuple ≡ 2 * t.rounds + 1 + extra l.self.problem.now) × NoneIsBad t l.self.problem.now l.low l.number
