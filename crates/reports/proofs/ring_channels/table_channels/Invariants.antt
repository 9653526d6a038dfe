use Rattle.std.proofs.Common.{◌≡◌, map}
use Rattle.std.specs.List.{range_with_len}
use Rattle.reports.proofs.TableLines.{channel_there}
use Rattle.reports.proofs.ring_channels.table_channels.Given as goal

-- the channels of the places so far
abbrev pub invariant-loop-place : goal.invariant-loop-place
invariant-loop-place l =
    l.channels.items ≡ map (channel_there l.table l.ring.places) (range_with_len 0 l.place)
