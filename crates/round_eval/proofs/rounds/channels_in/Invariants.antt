use Rattle.std.proofs.Common.{◌≡◌, map}
use Rattle.std.specs.List.{range_with_len}
use Rattle.node_program.specs.GlobalRounds.{channel_at}
use Rattle.round_eval.proofs.rounds.channels_in.Given as goal

-- the channels of the places so far
abbrev pub invariant-loop-place : goal.invariant-loop-place
invariant-loop-place l = l.channels.items ≡ map (channel_at l.places.program l.places.places) (range_with_len 0 l.place)
