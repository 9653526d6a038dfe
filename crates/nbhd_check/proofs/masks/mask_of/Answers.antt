use Rattle.std.proofs.Common.{◌≡◌, ◌<◌, ◌≤◌, ℕ, bit_or, arith, ⊎_elim}
use Rattle.std.proofs.lemmas.Bool.{cases_lt}
use Rattle.std.proofs.lemmas.Nat.Bits.{bit_at_or, bit_at-lt}
use Rattle.std.specs.Int.{bit_at}
use Rattle.nbhd_check.proofs.masks.mask_of.Goals as goal

-- a bit of one of two masks is a bit of both together
of_first : (a b bit : ℕ) → bit_at a bit ≡ 1 → bit_at (bit_or a b) bit ≡ 1
of_first a b bit has = omega (arith, bit_at_or a b bit, bit_at-lt b bit, has)

of_second : (a b bit : ℕ) → bit_at b bit ≡ 1 → bit_at (bit_or a b) bit ≡ 1
of_second a b bit has = omega (arith, bit_at_or a b bit, bit_at-lt a bit, has)

pub loop-channel-preserved : goal.loop-channel-preserved
loop-channel-preserved c place below x close = ⊎_elim
    (λ (before : place < c.loop-channel.channel-index). of_first _ _ _ (c.loop-channel.invariant place before x close))
    (λ (own : c.loop-channel.channel-index ≤ place).
    let same : place ≡ c.loop-channel.channel-index = omega (arith, below, own) in
    of_second _ _ _ (c.near_bits-mask.ensures x (rw same at close)))
    (cases_lt place c.loop-channel.channel-index)
