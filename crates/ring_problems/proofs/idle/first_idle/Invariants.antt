use Rattle.std.proofs.Common.{◌≡◌, drop}
use Rattle.ring_problems.specs.Idle.{idle_in}
use Rattle.ring_problems.proofs.idle.first_idle.Given as goal

-- the first one of what is left is the first of all
abbrev pub invariant-loop-pattern : goal.invariant-loop-pattern
invariant-loop-pattern l = idle_in (drop l.pattern-index l.patterns) l.channels ≡ idle_in l.patterns l.channels
