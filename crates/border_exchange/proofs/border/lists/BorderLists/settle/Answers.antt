use Rattle.std.proofs.Common.{◌∙◌, rules}
use Rattle.border_exchange.proofs.border.lists.BorderLists.settle.Goals as goal

pub returns-clause-counted : goal.returns-clause-counted
returns-clause-counted g c =
    (c.settle.ensures.counted ∙ c.into_right.ensures.amount, c.settle-2.ensures.counted ∙ c.into_left.ensures.amount)

pub returns-clause-rightward : goal.returns-clause-rightward
returns-clause-rightward g c = search rules fits 100

pub returns-clause-leftward : goal.returns-clause-leftward
returns-clause-leftward g c = search rules fits 100
