-- Sets of numbers below c, as numbers below 2 ^ c.
use Rattle.std.proofs.Common.{◌≡◌, ℕ, zero, suc, ◌+◌, ◌*◌, ◌^◌, ◌<◌, ◌≤◌, Bool, true, false, cond, refl, arith}
use Rattle.std.proofs.Math.Nat.{pow-succ'}

abbrev digit : Bool → ℕ
digit b = cond b 1 0

-- the number whose bit y says whether y is in the set
pub bits : ℕ → (ℕ → Bool) → ℕ
bits zero has = 0
bits (suc c) has = digit (has 0) + 2 * bits c (λ y. has (suc y))

digit_few : (b : Bool) → digit b ≤ 1
digit_few true = omega arith
digit_few false = omega arith

digit_same : (a b : Bool) → digit a ≡ digit b → a ≡ b
digit_same true true same = refl
digit_same true false same = absurd (omega (arith, same))
digit_same false true same = absurd (omega (arith, same))
digit_same false false same = refl

pub bits_below : (c : ℕ) (has : ℕ → Bool) → bits c has < 2 ^ c
unfolding bits
bits_below zero has = omega arith
bits_below (suc c) has = omega (arith, bits_below c (λ y. has (suc y)), digit_few (has 0), pow-succ' 2 c)

-- sets with the same number have the same members below c
pub same_members : (c : ℕ) (has other : ℕ → Bool) → bits c has ≡ bits c other → (y : ℕ) → y < c → has y ≡ other y
unfolding bits
same_members zero has other same y lt = absurd (omega (arith, lt))
same_members (suc c) has other same zero lt =
    digit_same (has 0) (other 0) (omega (arith, same, digit_few (has 0), digit_few (other 0)))
same_members (suc c) has other same (suc y) lt =
    let rest : bits c (λ y. has (suc y)) ≡ bits c (λ y. other (suc y)) =
    omega (arith, same, digit_few (has 0), digit_few (other 0)) in
    same_members c (λ y. has (suc y)) (λ y. other (suc y)) rest y (omega (arith, lt))
