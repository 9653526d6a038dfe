-- Products.
use Rattle.std.proofs.Common.{ℕ, ◌*◌, ◌≤◌, arith}
use Rattle.std.proofs.Math.Nat.{mul-le-mul}

-- a product of small numbers is small
pub product_few : (a b x y most : ℕ) → a ≤ x → b ≤ y → x * y ≤ most → a * b ≤ most
product_few a b x y most le_a le_b le = omega (arith, mul-le-mul {n₁ = a} {m₁ = b} {n₂ = x} {m₂ = y} le_a le_b)
