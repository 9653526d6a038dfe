use Rattle.std.proofs.Common.{◌≡◌, map}
use Rattle.std.specs.List.{range_with_len}
use Rattle.ring_core.specs.Progress.{opening_part}
use Rattle.ring_core.proofs.world.opening_parts.Given as goal

abbrev pub invariant-loop-index : goal.invariant-loop-index
invariant-loop-index l = l.parts.items ≡ map (opening_part l.plan l.ring l.segments) (range_with_len 0 l.index)
