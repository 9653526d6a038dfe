-- The number of binary digits, compared with powers of two, and the effect of shifts on machine words.
use Rattle.std.proofs.Common.{◌≡◌, ℕ, zero, suc, ◌+◌, ◌*◌, ◌/◌, ◌%◌, ◌^◌, ◌<◌, ◌≤◌, inl, inr, refl, arith}
use Rattle.std.specs.Int.{leading_zeros, w32}
use Rattle.std.proofs.lemmas.Bool.{cases_lt}
use Rattle.std.proofs.lemmas.Nat.{pow_pos, leading_length, shl_whole, one_shl}
use Rattle.std.proofs.Math.Nat.{pow-suc}
use Rattle.std.proofs.Math.Pow.{pow_mono}
use Rattle.node_program.specs.Bounds.{halvings, bits}
use Rattle.lang_check.specs.BoundLaws.{BinaryDigits}

-- zero has no digits
halvings-zero : (n : ℕ) → halvings n 0 ≡ 0
halvings-zero zero = refl
halvings-zero (suc n) = refl

halvings-above : (n x : ℕ) → x ≤ n → x < 2 ^ halvings n x
halvings-above zero x h = omega arith
halvings-above (suc n) zero h = omega arith
halvings-above (suc n) (suc x) h =
    let half : suc x / 2 < 2 ^ halvings n (suc x / 2) = halvings-above n (suc x / 2) (omega arith) in
    omega (arith, pow-suc 2 (halvings n (suc x / 2)))

halvings-below : (n x : ℕ) → 0 < x → x ≤ n → 2 ^ halvings n x ≤ 2 * x
halvings-below zero x some h = absurd (omega arith)
halvings-below (suc n) zero some h = absurd (omega arith)
halvings-below (suc n) (suc x) some h =
    elim (cases_lt 0 (suc x / 2)) [
      | inl more ↦
          let half : 2 ^ halvings n (suc x / 2) ≤ 2 * (suc x / 2) =
          halvings-below n (suc x / 2) more (omega arith) in
          omega (arith, pow-suc 2 (halvings n (suc x / 2)))
      | inr none ↦
          let half : suc x / 2 ≡ 0 = omega arith in
          let last : halvings n (suc x / 2) ≡ 0 = rw half (halvings-zero n) in
          rw last (omega arith)
    ]

-- a number is below the power of two with as many digits
pub bits-above : (x : ℕ) → x < 2 ^ bits x
unfolding bits
bits-above x = halvings-above x x (omega arith)

bits-below : (x : ℕ) → 0 < x → 2 ^ bits x ≤ 2 * x
unfolding bits
bits-below x some = halvings-below x x some (omega arith)

bits-zero : bits 0 ≡ 0
unfolding bits
bits-zero = refl

-- and no smaller power of two is above it
pub bits-le : (x k : ℕ) → x < 2 ^ k → bits x ≤ k
bits-le x k h =
    elim (cases_lt k (bits x)) [
      | inl longer ↦
          elim (cases_lt 0 x) [
            | inl some ↦
                let double : 2 ^ suc k ≤ 2 ^ bits x = pow_mono (omega arith) in
                absurd (omega (arith, bits-below x some, pow-suc 2 k))
            | inr none ↦ let e : x ≡ 0 = omega arith in rw (e, bits-zero) (omega arith)
          ]
      | inr short ↦ short
    ]

pub binary_digits : BinaryDigits
binary_digits x k =
    (λ h. let longer : 2 ^ bits x ≤ 2 ^ k = pow_mono h in omega (arith, bits-above x), bits-le x k)

-- digits and leading zeros of a machine word
pub leading_zeros-bits : (x : ℕ) → x < 2 ^ 32 → leading_zeros w32 x + bits x ≡ 32
leading_zeros-bits x h =
    let found = leading_length 32 x h in
    let m : ℕ = found.0 in
    let most : bits x ≤ m = bits-le x m found.2 in
    elim (cases_lt (bits x) m) [
      | inl fewer ↦
          let double : 2 ^ suc (bits x) ≤ 2 ^ m = pow_mono (omega arith) in
          absurd (omega (arith, bits-above x, pow-suc 2 (bits x), found.3))
      | inr least ↦ let e : bits x ≡ m = omega arith in rw e found.1
    ]

pub ruleset counted = (leading_zeros-bits)

-- a shift of a word in a word of twice the size
pub wide_shl : (a k : ℕ) → a < 2 ^ 32 → k < 32 → a * 2 ^ k % 2 ^ 64 ≡ a * 2 ^ k
wide_shl a k h lt = shl_whole a 32 k 64 h (omega arith)

-- a shift of the number one
pub unit_shl : (k : ℕ) → k < 32 → 1 * 2 ^ k % 2 ^ 32 ≡ 2 ^ k
unit_shl k lt = one_shl k 32 lt

pub unit_positive : (k : ℕ) → 0 < 2 ^ k
unit_positive = pow_pos

-- a shift that leaves nothing
pub far_shr : (a k : ℕ) → a < 2 ^ 32 → 32 ≤ k → a / 2 ^ k ≡ 0
far_shr a k h far =
    let larger : 2 ^ 32 ≤ 2 ^ k = pow_mono far in
    let below : a < 2 ^ k = omega arith in
    grind arith

pub ruleset shifted = (wide_shl, unit_shl, unit_positive, far_shr)
