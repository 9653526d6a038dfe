-- Bytes that end numbers. No public contract cites this file.
use Rattle.std.specs.Prelude.{◌≡◌, ◌≢◌, ℕ, ◌+◌, ◌<◌, List, ◌∷◌, ◌++◌, length, take, drop}
use Rattle.std.specs.List.{AllByRecursion}

-- the byte does not occur in the text
abbrev pub Lacks : ℕ → List ℕ → Type 0
Lacks byte text = AllByRecursion (λ b. b ≢ byte) text

-- the first byte of this value is at this index
pub record IsFirstByte (text : List ℕ) (index byte : ℕ) : Type 0 where
  pub within : index < length text
  pub cut : text ≡ take index text ++ byte ∷ drop (index + 1) text
  pub before : Lacks byte (take index text)
