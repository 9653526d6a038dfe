use Rattle.std.proofs.Common.{◌≡◌, false, take}
use Rattle.std.specs.List.{list_any}
use Rattle.ring_problems.specs.Patterns.{has_third}
use Rattle.ring_problems.proofs.patterns.is_long.Given as goal

-- no pattern so far asks something of the third place
abbrev pub invariant-loop-pattern : goal.invariant-loop-pattern
invariant-loop-pattern l = list_any has_third (take l.pattern-index l.problem) ≡ false
