use Rattle.std.proofs.Common.{ℕ, ◌<◌, ◌≤◌, arith, ⊎_elim}
use Rattle.std.proofs.lemmas.Bool.{cases_lt}
use Rattle.nbhd_check.proofs.far_counts.FarCounts.free_in_families.Goals as goal

pub loop-number-preserved : goal.loop-number-preserved
loop-number-preserved c =
    let number : ℕ = c.loop-number.number in (
      c.free_in_family-least.ensures.fit,
      λ n window below item own. ⊎_elim
          (λ (before : own.0 < number).
          c.loop-number.invariant.1 n window
          (omega (arith, below, c.free_in_family-least.ensures.less, c.min.ensures)) item
          (own.0, own.1, before, own.3))
          (λ (from : number ≤ own.0). c.free_in_family-least.ensures.free n window below item (own.0, from, omega (arith, own.2), own.3))
          (cases_lt own.0 number),
    )

pub returns : goal.returns
returns c = λ number window below item own.
    c.loop-number.invariant.1 number window below item
    (own.0, own.1, omega (arith, own.2, c.loop-number-test.false), own.3)
