-- The values of expressions are at most their bounds.
use Rattle.std.proofs.Common.{◌≡◌, ℕ, zero, suc, ◌+◌, ◌-◌, ◌*◌, ◌/◌, ◌%◌, ◌^◌, ◌<◌, ◌≤◌, ◌==◌, Bool, true, false, not}
use Rattle.std.proofs.Common.{Option, Some, None, inl, inr, refl, arith}
use Rattle.std.specs.Prelude.{nat_lt, min, max, if◌then◌else◌}
use Rattle.std.specs.Int.{bit_at}
use Rattle.std.proofs.lemmas.Bool.{cases_lt}
use Rattle.std.proofs.lemmas.Nat.{and_le_l, and_le_r, or_lt, xor_lt, shr_le}
use Rattle.std.proofs.lemmas.Nat.Bits.{bit_at_above, bit_at-lt}
use Rattle.std.proofs.Math.Nat.{mod-le, mod-lt, mul-le-mul_right}
use Rattle.std.proofs.Math.Pow.{shr_mono}
use Rattle.node_program.specs.declared.tree.UnOp.TheVariants.{Not}
use Rattle.node_program.specs.declared.tree.BinOp.{BinOp}
use Rattle.node_program.specs.declared.tree.BinOp.TheVariants.{And, Or, Xor, Shl, Shr, Add, Sub, Min, Max, Ldb, Bit, Eq}
use Rattle.node_program.specs.declared.tree.BinOp.TheVariants.{Ne, Lt, Le}
use Rattle.node_program.specs.Term.{Term, Literal, Identifier, LeftMessage, RightMessage, RegisterValue, One}
use Rattle.node_program.specs.Term.{Two, Choose}
use Rattle.node_program.specs.Operations.{top, flag, least_from, lowest_differing_bit, binary_value}
use Rattle.node_program.specs.Value.{Env, value}
use Rattle.node_program.specs.Bounds.{bits, written_number, binary_bound, bound, IsWithin}
use Rattle.lang_check.proofs.Bits.{bits-above}

flag-le : (t : Bool) → flag t ≤ 1
flag-le true = omega arith
flag-le false = omega arith

-- a choice between two numbers by a test
chosen : (t : Bool) (x y u v : ℕ) → x ≤ u → y ≤ v → (if t then x else y) ≤ (if t then u else v)
chosen true x y u v p q = p
chosen false x y u v p q = q

either : (t : Bool) (x y u : ℕ) → x ≤ u → y ≤ u → (if t then x else y) ≤ u
either true x y u p q = p
either false x y u p q = q

-- a search that fails from k on
least_from-le : (test : ℕ → Bool) (i n k : ℕ) → ((j : ℕ) → k ≤ j → test j ≡ false) → least_from test i n ≤ k - 1
least_from-le test i zero k none = omega arith
least_from-le test i (suc n) k none =
    elim (cases_lt i k) [
      | inl lt ↦ either (test i) i (least_from test (i + 1) n) (k - 1) (omega arith)
          (least_from-le test (i + 1) n k none)
      | inr far ↦ rw (none i far) (least_from-le test (i + 1) n k none)
    ]

-- numbers below 2 ^ k differ in no bit from k on
lowest_differing_bit-le : (a b k : ℕ) → a < 2 ^ k → b < 2 ^ k → lowest_differing_bit a b ≤ k - 1
unfolding lowest_differing_bit
lowest_differing_bit-le a b k la lb =
    least_from-le (λ i. not (bit_at a i == bit_at b i)) 0 32 k
    (λ j far. rw (bit_at_above a k j la far, bit_at_above b k j lb far) refl)

-- both operands have at most as many digits as the greater of their bounds
below_both : (a b c d : ℕ) → a ≤ c → b ≤ d → (a < 2 ^ bits (max c d)) × (b < 2 ^ bits (max c d))
below_both a b c d p q =
    let above : max c d < 2 ^ bits (max c d) = bits-above (max c d) in
    (omega arith, omega arith)

-- a literal has its number as its value
abbrev Agrees : Option ℕ → ℕ → Type 0
Agrees (Some k) b = b ≡ k
Agrees None b = Unit {0}

written-agrees : (e : Term) (env : Env) → Agrees (written_number e) (value e env)
written-agrees (Literal n) env = refl
written-agrees Identifier env = tt
written-agrees LeftMessage env = tt
written-agrees RightMessage env = tt
written-agrees (RegisterValue j) env = tt
written-agrees (One o a) env = tt
written-agrees (Two o a b) env = tt
written-agrees (Choose c a b) env = tt

shl-le_top : (a k : ℕ) → (if nat_lt k 32 then a * 2 ^ k % 2 ^ 32 else 0) ≤ top
shl-le_top a k =
    let some : 0 < 2 ^ 32 = omega arith in
    either (nat_lt k 32) (a * 2 ^ k % 2 ^ 32) 0 top (omega (arith, mod-lt (a * 2 ^ k) some)) (omega arith)

shl-le : (a c k : ℕ) → a ≤ c
    → (if nat_lt k 32 then a * 2 ^ k % 2 ^ 32 else 0) ≤ (if nat_lt k 32 then min (c * 2 ^ k) top else top)
shl-le a c k p =
    let some : 0 < 2 ^ 32 = omega arith in
    let more : a * 2 ^ k ≤ c * 2 ^ k = mul-le-mul_right (2 ^ k) p in
    let small : a * 2 ^ k % 2 ^ 32 ≤ a * 2 ^ k = mod-le (a * 2 ^ k) (2 ^ 32) in
    let word : a * 2 ^ k % 2 ^ 32 < 2 ^ 32 = mod-lt (a * 2 ^ k) some in
    chosen (nat_lt k 32) (a * 2 ^ k % 2 ^ 32) 0 (min (c * 2 ^ k) top) top (omega arith) (omega arith)

-- an operation
binary_within :
    (o : BinOp) (written : Option ℕ) (a b c d : ℕ) → Agrees written b → a ≤ c → b ≤ d
    → binary_value o a b ≤ binary_bound o written c d
binary_within And written a b c d w p q = omega (arith, and_le_l a b, and_le_r a b)
binary_within Or written a b c d w p q =
    let both = below_both a b c d p q in
    omega (arith, or_lt (bits (max c d)) a b both.0 both.1)
binary_within Xor written a b c d w p q =
    let both = below_both a b c d p q in
    omega (arith, xor_lt (bits (max c d)) a b both.0 both.1)
binary_within Shl (Some k) a b c d w p q = rw w (shl-le a c k p)
binary_within Shl None a b c d w p q = shl-le_top a b
binary_within Shr (Some k) a b c d w p q =
    rw w (either (nat_lt k 32) (a / 2 ^ k) 0 (c / 2 ^ k) (shr_mono k p) (omega arith))
binary_within Shr None a b c d w p q =
    either (nat_lt b 32) (a / 2 ^ b) 0 c (omega (arith, shr_le a b)) (omega arith)
binary_within Add written a b c d w p q =
    let some : 0 < 2 ^ 32 = omega arith in
    omega (arith, mod-le (a + b) (2 ^ 32), mod-lt (a + b) some)
binary_within Sub written a b c d w p q = omega arith
binary_within Min written a b c d w p q = omega arith
binary_within Max written a b c d w p q = omega arith
binary_within Ldb written a b c d w p q =
    let both = below_both a b c d p q in
    lowest_differing_bit-le a b (bits (max c d)) both.0 both.1
binary_within Bit written a b c d w p q =
    either (nat_lt b 32) (bit_at a b) 0 1 (omega (arith, bit_at-lt a b)) (omega arith)
binary_within Eq written a b c d w p q = flag-le _
binary_within Ne written a b c d w p q = flag-le _
binary_within Lt written a b c d w p q = flag-le _
binary_within Le written a b c d w p q = flag-le _

-- what an expression reads is at most its bound
pub record EnvIsWithin (env bounds : Env) : Type 0 where
  pub id : env.id ≤ bounds.id
  pub left : env.left ≤ bounds.left
  pub right : env.right ≤ bounds.right
  pub registers : IsWithin env.registers bounds.registers

-- an expression
pub value_within : (e : Term) (env bounds : Env) → EnvIsWithin env bounds → value e env ≤ bound e bounds
value_within (Literal n) env bounds h = omega arith
value_within Identifier env bounds h = h.id
value_within LeftMessage env bounds h = h.left
value_within RightMessage env bounds h = h.right
value_within (RegisterValue j) env bounds h = h.registers j
value_within (One Not a) env bounds h = omega arith
value_within (Two o a b) env bounds h =
    binary_within o (written_number b) (value a env) (value b env) (bound a bounds) (bound b bounds)
    (written-agrees b env) (value_within a env bounds h) (value_within b env bounds h)
value_within (Choose c a b) env bounds h =
    let first : value a env ≤ bound a bounds = value_within a env bounds h in
    let second : value b env ≤ bound b bounds = value_within b env bounds h in
    either (value c env == 0) (value b env) (value a env) (max (bound a bounds) (bound b bounds))
    (omega arith) (omega arith)
