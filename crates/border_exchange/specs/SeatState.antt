-- Seats.
use Rattle.std.specs.Prelude.{◌≡◌, ℕ}
use Rattle.border_exchange.specs.declared.Side.{Side}
use Rattle.border_exchange.specs.declared.border.fault.PutFault.{PutFault}
use Rattle.border_exchange.specs.declared.border.fault.PutFault.TheVariants.{Closed, Misplaced, OutOfMemory}

-- the side on which a seat puts, and the number of its puts
pub record SeatState : Type 0 where
  pub side : Side
  pub puts : ℕ

-- the message is the next one of the seat: it is of the seat's side, and its round is the number of the seat's puts
pub record IsNext {M : Type 0} (side_of : M → Side) (round_of : M → ℕ) (seat : SeatState) (m : M) : Type 0 where
  pub side : side_of m ≡ seat.side
  pub round : round_of m ≡ seat.puts

-- what a fault of a put says of the message: a misplaced one is not the next one of the seat, and memory is only
-- wanted for the next one
abbrev pub IsPutFault : {M : Type 0} → (M → Side) → (M → ℕ) → SeatState → M → PutFault → Type 0
IsPutFault side_of round_of seat m Closed = Unit {0}
IsPutFault side_of round_of seat m Misplaced = ¬ IsNext side_of round_of seat m
IsPutFault side_of round_of seat m OutOfMemory = IsNext side_of round_of seat m
