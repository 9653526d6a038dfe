-- What a literal is.
use Rattle.std.specs.Prelude.{ℕ, Bool}

-- a variable, and whether it is taken as it is or negated
pub record SignedVariable : Type 0 where
  pub variable : ℕ
  pub is_positive : Bool
