-- The foot of a tower that reaches a number.
use Rattle.std.proofs.Common.{◌≡◌, ◌↔◌, ℕ, suc, ◌+◌, ◌-◌, ◌*◌, ◌^◌, ◌<◌, ◌≤◌, arith, ⊎_elim, add-one, pow_mono}
use Rattle.std.proofs.Math.Nat.{pow-succ'}
use Rattle.std.proofs.lemmas.Bool.{cases_lt}
use Rattle.lower_bound.specs.Towers.{tower}

-- the exponent of a number that is at least 2
pub exponent_is : (x r n : ℕ) → 2 ≤ x → 2 ^ r ≤ x - 1 → x - 1 < 2 * 2 ^ r → (x ≤ 2 ^ n) ↔ (r + 1 ≤ n)
exponent_is x r n some low high = (over, under)
  where
    over : x ≤ 2 ^ n → r + 1 ≤ n
    over le = ⊎_elim (λ (lt : r < n). omega (arith, lt))
        (λ (ge : n ≤ r). absurd (omega (arith, le, low, some, pow_mono ge))) (cases_lt r n)

    under : r + 1 ≤ n → x ≤ 2 ^ n
    under le = omega (arith, high, pow-succ' 2 r, rw add-one at (pow_mono le))

-- the tower of height k + j over c reaches the top exactly if that of height j reaches the foot
abbrev pub IsFootAfter : ℕ → ℕ → ℕ → Type 0
IsFootAfter top k foot = (j c : ℕ) → (top ≤ tower (k + j) c) ↔ (foot ≤ tower j c)

-- two levels more
pub foot_more :
    (top i foot middle next : ℕ) → IsFootAfter top (2 * i) foot → ((n : ℕ) → (foot ≤ 2 ^ n) ↔ (middle ≤ n))
    → ((n : ℕ) → (middle ≤ 2 ^ n) ↔ (next ≤ n)) → IsFootAfter top (2 * (i + 1)) next
foot_more top i foot middle next is first second j c =
    let same : 2 * (i + 1) + j ≡ 2 * i + suc (suc j) = omega arith in
    let own = is (suc (suc j)) c in
    let low = second (tower j c) in
    let high = first (tower (suc j) c) in
    rw same ((λ le. low.0 (high.0 (own.0 le))), (λ le. own.1 (high.1 (low.1 le))))

pub foot_all : (top i foot : ℕ) → IsFootAfter top (2 * i) foot → (c : ℕ) → (top ≤ tower (2 * i) c) ↔ (foot ≤ c)
foot_all top i foot is c =
    let same : 2 * i + 0 ≡ 2 * i = omega arith in
    rw same at (is 0 c)
