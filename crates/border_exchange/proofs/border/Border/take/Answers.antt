use Rattle.border_exchange.proofs.border.Border.take.Goals as goal

pub returns : goal.returns
returns g c = c.get.ensures.dated
