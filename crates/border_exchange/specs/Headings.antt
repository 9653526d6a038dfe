-- The heading of a message.
use Rattle.border_exchange.specs.Messages.{Heading}
use Rattle.border_exchange.specs.declared.message.Msg.{Msg}

-- the plan, the ring, the place, the side and the round that a message names
abbrev pub heading_of : Msg → Heading
heading_of m = record { plan = m.plan.now; ring = m.ring.now; place = m.place; side = m.side; round = m.round }
