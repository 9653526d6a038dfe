use Rattle.std.proofs.lemmas.Option.{IfSome_then}
use Rattle.ring_core.proofs.Readings.{came_is, if_none}
use Rattle.ring_core.proofs.world.World.came.Goals as goal

pub returns-clause-none : goal.returns-clause-none
returns-clause-none c =
    let size = came_is c.args.side c.args.self.now c.args.index c.sender-sender.result c.part.result.now c.requires
    c.sender-sender.ensures.value c.part.ensures.rightward c.part.ensures.leftward in
    if_none c.sent_in.result _ _ (λ none. rw (← size) none) c.sent_in.ensures.none

pub returns-clause-some : goal.returns-clause-some
returns-clause-some c =
    let size = came_is c.args.side c.args.self.now c.args.index c.sender-sender.result c.part.result.now c.requires
    c.sender-sender.ensures.value c.part.ensures.rightward c.part.ensures.leftward in
    IfSome_then c.sent_in.result c.sent_in.ensures.some (λ m sent. rw (← size) sent.0)
