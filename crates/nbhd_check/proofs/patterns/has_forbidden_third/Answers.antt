use Rattle.std.proofs.Common.{arith}
use Rattle.nbhd_check.proofs.PatternSteps.{no_third_more}
use Rattle.nbhd_check.proofs.patterns.has_forbidden_third.Goals.{else-place-gap-via-then-place-gap+else-is_forbidden}
use Rattle.nbhd_check.proofs.patterns.has_forbidden_third.Goals.{else-place-gap-via-else-place-gap}
use Rattle.nbhd_check.proofs.patterns.has_forbidden_third.Goals as goal

pub loop-place-preserved : goal.loop-place-preserved
loop-place-preserved c =
    let l = c.loop-place in
    elim c.else-place-gap.branch [
      | else-place-gap-via-then-place-gap+else-is_forbidden w ↦
          no_third_more c.args.problem.now c.args.channels c.args.thirds.now c.args.gap l.place l.invariant
          (λ _. w.if-is_forbidden.ensures)
      | else-place-gap-via-else-place-gap w ↦
          no_third_more c.args.problem.now c.args.channels c.args.thirds.now c.args.gap l.place l.invariant
          (λ other. absurd (other (omega (arith, w.if-place-gap.false))))
    ]

pub returns : goal.returns
returns c place lt = c.loop-place.invariant place (omega (arith, lt, c.loop-place-test.false))
