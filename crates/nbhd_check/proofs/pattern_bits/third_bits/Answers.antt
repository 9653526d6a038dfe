use Rattle.std.proofs.Common.{◌<◌, ◌≤◌, Some, arith, ⊎_elim}
use Rattle.std.proofs.lemmas.Bool.{cases_lt}
use Rattle.std.proofs.lemmas.Option.{slice_get_within}
use Rattle.nbhd_check.proofs.BitSets.{of_first, of_second}
use Rattle.nbhd_check.proofs.PatternWords.{match_at}
use Rattle.nbhd_check.proofs.pattern_bits.third_bits.Goals as goal

pub loop-pattern-preserved : goal.loop-pattern-preserved
loop-pattern-preserved c n a b third p lt item at_a at_b m =
    ⊎_elim (λ (less : n < c.loop-pattern.pattern-index). of_first _ _ _ (c.loop-pattern.invariant n a b third p less item at_a at_b m))
    (λ (own : c.loop-pattern.pattern-index ≤ n).
    let same = match_at c.args.problem.now n c.loop-pattern.pattern-index p _ (Some a) (Some b) (Some third)
    (omega (arith, own, lt)) item m in
    of_second _ _ _ (c.bits_after-bits.ensures a b third at_a at_b same.0 same.1 same.2))
    (cases_lt n c.loop-pattern.pattern-index)

pub returns : goal.returns
returns c a b third at_a at_b bad =
    c.loop-pattern.invariant bad.0 a b third bad.1
    (omega (arith, slice_get_within c.args.problem.now bad.0 bad.1 bad.2, c.loop-pattern-test.false, c.loop-pattern.auto.pattern-index-end)) bad.2 at_a at_b bad.3
