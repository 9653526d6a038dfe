use Rattle.std.proofs.Common.{arith}
use Rattle.nbhd_check.proofs.patterns.PatternSearch.least_at.Goals.{else-number-least-via-then-number-least+else-is_broken}
use Rattle.nbhd_check.proofs.patterns.PatternSearch.least_at.Goals.{else-number-least-via-else-number-least}
use Rattle.nbhd_check.proofs.patterns.PatternSearch.least_at.Goals as goal

pub returns-else-number-least-clause-free : goal.returns-else-number-least-clause-free
returns-else-number-least-clause-free c number x z below item turned =
    elim c.else-number-least.branch [
      | else-number-least-via-then-number-least+else-is_broken w ↦ w.if-is_broken.ensures
      | else-number-least-via-else-number-least w ↦
          absurd (omega (arith, below, w.if-number-least.false, c.number_before-number.ensures number x z item turned))
    ]
