-- The shares of the ledgers of both sides.
use Rattle.std.specs.Prelude.{ℕ}
use Rattle.border_exchange.specs.declared.Side.{Side}
use Rattle.border_exchange.specs.declared.Side.TheVariants.{Rightward as to_right, Leftward as to_left}
use Rattle.border_exchange.specs.declared.border.seat.SideShare.{SideShare}
use Rattle.border_exchange.specs.declared.border.seat.SideShare.TheVariants.{Rightward, Leftward}

-- the side of a share
abbrev pub side_of_share : {R L : Type 0} → SideShare R L → Side
side_of_share (Rightward share) = to_right
side_of_share (Leftward share) = to_left

-- the number of messages that it has counted
abbrev pub amount_of_share : {R L : Type 0} → SideShare R L → ℕ
amount_of_share (Rightward share) = share.amount
amount_of_share (Leftward share) = share.amount

-- the number of parts of its ledger that it is
abbrev pub parts_of_share : {R L : Type 0} → SideShare R L → ℕ
parts_of_share (Rightward share) = share.parts
parts_of_share (Leftward share) = share.parts
