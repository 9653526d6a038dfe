use Rattle.std.proofs.Common.{◌≡◌, ℕ, ◌<◌, get_or}
use Rattle.node_program.specs.GlobalRounds.{channel_at}
use Rattle.ring_exec.proofs.gathering.write_part.Given as goal

-- the channels of the places so far are written
abbrev pub invariant-loop-place : goal.invariant-loop-place
invariant-loop-place l =
    (i : ℕ) → i < l.place → get_or l.channels i 0 ≡ channel_at l.plan.program l.segment.ring.places i
