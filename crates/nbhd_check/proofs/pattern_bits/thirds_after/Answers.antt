use Rattle.std.proofs.Common.{◌≡◌, ℕ, ◌+◌, ◌*◌, ◌%◌, ◌<◌, ◌≤◌, get_or, sym, ap, ◌∙◌, arith, ⊎_elim}
use Rattle.std.proofs.lemmas.Bool.{cases_lt}
use Rattle.std.specs.Int.{bit_at}
use Rattle.nbhd_check.proofs.BitSets.{of_first, of_second}
use Rattle.nbhd_check.proofs.pattern_bits.thirds_after.Goals as goal

pub loop-channel-preserved : goal.loop-channel-preserved
loop-channel-preserved c a lt has bit is =
    let own : ℕ = c.loop-channel.channel in
    ⊎_elim (λ (less : a % 64 < own). of_first _ _ _ (c.loop-channel.invariant a less has bit is))
    (λ (here : own ≤ a % 64).
    let same : a % 64 ≡ own = omega (arith, lt, here) in
    let cell : a % 64 * 64 + c.args.second % 64 ≡ 64 * own + c.args.second % 64 = omega (arith, same) in
    of_second _ _ _ (ap (λ n. bit_at n bit) (c.word_if-thirds.ensures a same has)
    ∙ ap (λ k. bit_at (get_or c.args.bits.now k 0) bit) (sym cell) ∙ is))
    (cases_lt (a % 64) own)
