use Rattle.std.proofs.Common.{◌≡◌, ◌<◌, ◌≤◌, ℕ, get_or, arith, ⊎_elim}
use Rattle.std.proofs.lemmas.Bool.{cases_lt}
use Rattle.std.proofs.lemmas.Nat.Bits.{bit_at_or, bit_at-lt}
use Rattle.nbhd_check.proofs.masks.union_of.Goals as goal

pub loop-mask-preserved : goal.loop-mask-preserved
loop-mask-preserved c place below bit has =
    let next : ℕ = get_or c.args.masks.now c.loop-mask.mask-index 0 in
    ⊎_elim
    (λ (before : place < c.loop-mask.mask-index). omega (arith, bit_at_or c.loop-mask.union next bit, bit_at-lt next bit, c.loop-mask.invariant place before bit has))
    (λ (own : c.loop-mask.mask-index ≤ place).
    let same : place ≡ c.loop-mask.mask-index = omega (arith, below, own) in
    omega (arith, bit_at_or c.loop-mask.union next bit, bit_at-lt c.loop-mask.union bit, rw same at has))
    (cases_lt place c.loop-mask.mask-index)
