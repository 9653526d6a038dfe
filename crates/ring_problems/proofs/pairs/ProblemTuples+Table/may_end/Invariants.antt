use Rattle.ring_problems.specs.Pairs.{NoneEnds}
use Rattle.ring_problems.proofs.pairs.ProblemTuples+Table.may_end.Given as goal

-- no third window so far has a forbidden channel
abbrev pub invariant-loop-place : goal.invariant-loop-place
invariant-loop-place l =
    NoneEnds l.self.windows.now l.self.problem.now l.first l.second l.thirds.first l.place l.thirds.gap
