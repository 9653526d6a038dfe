use Rattle.std.proofs.Common.{◌≡◌, ◌≢◌, ℕ, ◌<◌, ◌≤◌, ◌%◌, ap, ◌∙◌, arith, ⊎_elim, w64}
use Rattle.std.proofs.Math.Nat.{mod-lt}
use Rattle.std.proofs.lemmas.Bool.{cases_eq, cases_lt}
use Rattle.std.proofs.lemmas.Nat.Bits.{bit_at_set_same, bit_at_set_other}
use Rattle.nbhd_check.proofs.masks.near_bits.Goals as goal

pub loop-near-preserved : goal.loop-near-preserved
loop-near-preserved c x from below =
    let old : ℕ = c.loop-near.bits in
    let near : ℕ = c.loop-near.near in
    let small : near % 64 < 64 = mod-lt near (omega arith) in
    ⊎_elim
    (λ (same : x % 64 ≡ near % 64). rw same (bit_at_set_same w64 old (near % 64) small))
    (λ (other : x % 64 ≢ near % 64).
    let before : x < near = ⊎_elim
    (λ (is : x < near). is)
    (λ (past : near ≤ x).
    let own : x ≡ near = omega (arith, past, below) in
    absurd (other (ap (λ n. n % 64) own)))
    (cases_lt x near) in
    bit_at_set_other w64 old (near % 64) small (x % 64) other ∙ c.loop-near.invariant x from before)
    (cases_eq (x % 64) (near % 64))

pub returns-then-distance-eq1 : goal.returns-then-distance-eq1
returns-then-distance-eq1 c x close =
    let channel : ℕ = c.from-channel.result in
    let own : x ≡ channel = omega (arith, close, c.if-distance-eq1.true, c.from-channel.ensures) in
    rw own (bit_at_set_same w64 0 (channel % 64) (mod-lt channel (omega arith)))
