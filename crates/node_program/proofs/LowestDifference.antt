-- The least index at which two numbers differ in a bit, by the trailing zeros of their difference.
use Rattle.std.proofs.Common.{◌≡◌, ◌≢◌, ℕ, zero, suc, ◌+◌, ◌^◌, ◌<◌, ◌≤◌, ◌==◌, Bool, true, false, not, inl, inr, refl}
use Rattle.std.proofs.Common.{ap, arith}
use Rattle.std.specs.Int.{bit_at, trailing_zeros, w32}
use Rattle.std.specs.Int.RustNames.{bit_xor}
use Rattle.std.proofs.lemmas.Bool.Decides.{eqb_tells}
use Rattle.std.proofs.lemmas.Nat.{xor_lt}
use Rattle.std.proofs.lemmas.Nat.Bits.{bit_at-trailing_zeros, bit_at_xor, bit_at-lt, bit_at-zero, same_from_bits}
use Rattle.node_program.specs.Operations.{least_from, lowest_differing_bit}

-- a test that no number of the range passes
pub least_from-none :
    (test : ℕ → Bool) (i n : ℕ) → ((j : ℕ) → i ≤ j → j < i + n → test j ≡ false) → least_from test i n ≡ 0
least_from-none test i zero none = refl
least_from-none test i (suc n) none =
    rw (none i (omega arith) (omega arith))
    (least_from-none test (i + 1) n (λ j low high. none j (omega arith) (omega arith)))

-- a test that k is the first number of the range to pass
pub least_from-first :
    (test : ℕ → Bool) (i n k : ℕ) → i ≤ k → k < i + n → test k ≡ true → ((j : ℕ) → i ≤ j → j < k → test j ≡ false)
    → least_from test i n ≡ k
least_from-first test i zero k low high here below = absurd (omega arith)
least_from-first test i (suc n) k low high here below =
    elim (eqb_tells i k) [
      | inl same ↦ let e : i ≡ k = same.1 in rw (e, here)
      | inr other ↦
          let ne : i ≢ k = other.1 in
          rw (below i (omega arith) (omega arith))
          (least_from-first test (i + 1) n k (omega arith) (omega arith) here (λ j lower. below j (omega arith)))
    ]

agrees : (x y : ℕ) → x ≡ y → not (x == y) ≡ false
agrees x y e = elim (eqb_tells x y) [ inl equal ↦ ap not equal.0 | inr other ↦ absurd (other.1 e) ]

differs : (x y : ℕ) → x ≢ y → not (x == y) ≡ true
differs x y ne = elim (eqb_tells x y) [ inl equal ↦ absurd (ne equal.1) | inr other ↦ ap not other.0 ]

-- a bit of an exclusive or is 0 where the bits are equal, and else 1
same_bits : (a b i : ℕ) → bit_at (bit_xor a b) i ≡ 0 → bit_at a i ≡ bit_at b i
same_bits a b i e = omega (arith, bit_at_xor a b i, bit_at-lt a i, bit_at-lt b i)

other_bits : (a b i : ℕ) → bit_at (bit_xor a b) i ≡ 1 → bit_at a i ≢ bit_at b i
other_bits a b i e = λ same. omega (arith, bit_at_xor a b i, bit_at-lt a i, bit_at-lt b i)

-- equal numbers differ in no bit
pub lowest_differing_bit-same : (a b : ℕ) → a ≡ b → lowest_differing_bit a b ≡ 0
unfolding lowest_differing_bit
lowest_differing_bit-same a b e =
    least_from-none (λ i. not (bit_at a i == bit_at b i)) 0 32
    (λ i low high. agrees (bit_at a i) (bit_at b i) (ap (λ x. bit_at x i) e))

-- for different numbers it is the number of trailing zeros of their exclusive or
pub lowest_differing_bit-xor :
    (a b : ℕ) → a ≢ b → a < 2 ^ 32 → b < 2 ^ 32 → lowest_differing_bit a b ≡ trailing_zeros w32 (bit_xor a b)
unfolding lowest_differing_bit
lowest_differing_bit-xor a b ne la lb =
    let x : ℕ = bit_xor a b in
    let some : 0 < x = nonzero a b ne in
    let found = bit_at-trailing_zeros w32 x some (xor_lt 32 a b la lb) in
    let k : ℕ = trailing_zeros w32 x in
    least_from-first (λ i. not (bit_at a i == bit_at b i)) 0 32 k (omega arith) found.0
    (differs (bit_at a k) (bit_at b k) (other_bits a b k found.1))
    (λ i low high. agrees (bit_at a i) (bit_at b i) (same_bits a b i (found.2 i high)))
  where
    nonzero : (a b : ℕ) → a ≢ b → 0 < bit_xor a b
    nonzero a b ne =
        elim (eqb_tells (bit_xor a b) 0) [
          | inl equal ↦ absurd (ne (same_from_bits a b (λ i. same_bits a b i (rw equal.1 (bit_at-zero i)))))
          | inr other ↦ let h : bit_xor a b ≢ 0 = other.1 in omega arith
        ]

-- both lemmas, for `using`
pub ruleset differing = (lowest_differing_bit-same, lowest_differing_bit-xor)
