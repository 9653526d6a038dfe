-- Lists of messages in the order of the rounds.
use Rattle.std.specs.Prelude.{◌≡◌, ℕ, List, Some, slice_get}
use Rattle.border_exchange.specs.declared.Side.{Side}

-- message k of the list is of this side and of round k
pub record AreInRounds {M : Type 0} (side_of : M → Side) (round_of : M
    → ℕ) (side : Side) (messages : List M) : Type 0 where
  pub at : (k : ℕ) (m : M) → slice_get messages k ≡ Some m → (side_of m ≡ side) × (round_of m ≡ k)
