use Rattle.std.proofs.Common.{◌≡◌, ◌<◌, length, subst, sym}
use Rattle.ring_core.specs.Machine.{Machine}
use Rattle.ring_core.specs.MachinePromises.{segment_after_rounds}
use Rattle.ring_core.specs.Progress.{needed_to, sender_of, sent_to}
use Rattle.ring_core.proofs.Readings.{is_part, neighbours_send}
use Rattle.ring_core.proofs.world.World.neighbours.Goals as goal

pub returns : goal.returns
returns c = λ side s r below.
    subst (λ (m : Machine). sent_to side (segment_after_rounds m (sender_of (length m.segments) s side) r)
    ≡ needed_to side (segment_after_rounds m s r)) c.self.view_is
    (neighbours_send _ c.self.invariant side s r
    (is_part _ c.self.invariant s (subst (λ (m : Machine). s < length m.segments) (sym c.self.view_is) below)))
