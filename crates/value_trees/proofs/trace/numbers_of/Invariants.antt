use Rattle.std.proofs.Common.{◌≡◌, map}
use Rattle.std.specs.List.{range_with_len}
use Rattle.round_eval.specs.Configuration.{quantity}
use Rattle.value_trees.proofs.trace.numbers_of.Given as goal

-- the numbers of the places so far
abbrev pub invariant-loop-place : goal.invariant-loop-place
invariant-loop-place l = l.numbers.items ≡ map (quantity l.places l.what) (range_with_len 0 l.place)
