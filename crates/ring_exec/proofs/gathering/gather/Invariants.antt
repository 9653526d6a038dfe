use Rattle.std.proofs.Common.{◌≡◌, ℕ, ◌+◌, ◌<◌, length, get_or, vec_len}
use Rattle.node_program.specs.GlobalRounds.{channel_at}
use Rattle.border_exchange.specs.SegmentPlaces.{first_place}
use Rattle.ring_exec.proofs.gathering.gather.Given as goal

-- the channels of the segments so far are written, and the others are still in the list
abbrev pub invariant-loop-index : goal.invariant-loop-index
invariant-loop-index l =
    record {
      left : vec_len l.found + l.index ≡ l.segments;
      first : l.first ≡ first_place (length l.ring.places) l.segments l.index;
      size : length l.channels ≡ length l.ring.places;
      each : (i : ℕ) → i < l.first → get_or l.channels i 0 ≡ channel_at l.plan.program l.ring.places i;
    }
