-- What reading the input takes from a reader.
-- The bytes that a reader has left are known or not, as `Some` or `None`.
use Rattle.std.specs.Prelude.{ℕ, ◌<◌, ◌≤◌, List, length, Option}
use Rattle.std.specs.Io.KnownBytes.{Consumes, IsAtEnd}

-- The input of a reader: all that it has left, or the first `most` bytes if it has more.
pub record GivesInput (old new : Option (List ℕ)) (most : ℕ) (input : List ℕ) : Type 0 where
  pub taken : Consumes old new input
  pub bounded : length input ≤ most
  pub whole : length input < most → IsAtEnd new

-- At most `most` bytes were taken from the start of what the reader had left.
abbrev pub TakesFront : Option (List ℕ) → Option (List ℕ) → ℕ → Type 0
TakesFront old new most = (taken : List ℕ) × Consumes old new taken × (length taken ≤ most)
