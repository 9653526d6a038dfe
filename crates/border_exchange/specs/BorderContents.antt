-- The content of a border under its lock.
use Rattle.std.specs.Prelude.{Bool, List, [], ◌∷◌, ◌++◌}
use Rattle.border_exchange.specs.declared.Side.{Side}
use Rattle.border_exchange.specs.declared.Side.TheVariants.{Rightward, Leftward}

-- the messages that were put on each side, in order, and whether the border was closed
pub record BorderContents (M : Type 0) : Type 0 where
  pub rightward : List M
  pub leftward : List M
  pub closed : Bool

-- the messages of a side
abbrev pub messages_of : {M : Type 0} → BorderContents M → Side → List M
messages_of b Rightward = b.rightward
messages_of b Leftward = b.leftward

-- the same content with one more message on a side
abbrev pub with_message : {M : Type 0} → BorderContents M → Side → M → BorderContents M
with_message b Rightward m = record b { rightward = b.rightward ++ m ∷ [] }
with_message b Leftward m = record b { leftward = b.leftward ++ m ∷ [] }
