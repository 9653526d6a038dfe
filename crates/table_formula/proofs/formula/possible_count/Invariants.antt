use Rattle.std.proofs.Common.{◌≡◌, ◌≤◌, filter, length, take}
use Rattle.ring_problems.specs.Patterns.{is_below}
use Rattle.table_formula.proofs.formula.possible_count.Given as goal

-- the number of the patterns so far that the channels can match
abbrev pub invariant-loop-pattern : goal.invariant-loop-pattern
invariant-loop-pattern l =
    (l.count ≡ length (filter (is_below l.channels) (take l.pattern-index l.patterns)))
    × (l.count ≤ l.pattern-index)
