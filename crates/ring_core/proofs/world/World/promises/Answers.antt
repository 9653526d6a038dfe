use Rattle.std.proofs.Common.{subst}
use Rattle.ring_core.specs.MachinePromises.{KeepsPromises}
use Rattle.ring_core.proofs.Readings.{global_states, global_messages, near}
use Rattle.ring_core.proofs.world.World.promises.Goals as goal

pub returns : goal.returns
returns c =
    let kept = c.self.invariant in
    subst KeepsPromises c.self.view_is
    (record { states = global_states _ kept; messages = global_messages _ kept; near = near _ kept })
