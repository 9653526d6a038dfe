-- The sides of a border.
use Rattle.border_exchange.specs.declared.Side.{Side}
use Rattle.border_exchange.specs.declared.Side.TheVariants.{Rightward, Leftward}

-- the side of the neighbour's messages
abbrev pub opposite : Side → Side
opposite Rightward = Leftward
opposite Leftward = Rightward
