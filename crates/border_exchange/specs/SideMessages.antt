-- The messages of a side.
use Rattle.std.specs.Prelude.{List}
use Rattle.border_exchange.specs.declared.Side.{Side}

-- a side, and the messages that were put on it, in order
pub record SideMessages (M : Type 0) : Type 0 where
  pub side : Side
  pub messages : List M
