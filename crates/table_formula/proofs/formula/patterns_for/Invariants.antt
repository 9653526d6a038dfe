use Rattle.std.proofs.Common.{◌≡◌, filter, take}
use Rattle.ring_problems.specs.Patterns.{is_below}
use Rattle.table_formula.proofs.formula.patterns_for.Given as goal

-- the patterns so far that the channels can match
abbrev pub invariant-loop-pattern : goal.invariant-loop-pattern
invariant-loop-pattern l = l.possible.items ≡ filter (is_below l.channels) (take l.pattern-index l.patterns)
