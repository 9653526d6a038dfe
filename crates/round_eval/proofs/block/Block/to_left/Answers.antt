use Rattle.round_eval.proofs.block.Block.to_left.Goals as goal

pub returns-clause-size : goal.returns-clause-size
returns-clause-size c = rw (← c.self.view_is, c.deref.ensures.value)
    (c.self.invariant.sent.left_size (rw (← c.self.view_is) at c.requires.level))

pub returns-clause-sent : goal.returns-clause-sent
returns-clause-sent c = rw (← c.self.view_is, c.deref.ensures.value)
    (c.self.invariant.sent.left (rw (← c.self.view_is) at c.requires.level))
