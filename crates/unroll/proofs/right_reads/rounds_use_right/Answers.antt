use Rattle.std.proofs.Common.{◌≡◌, ◌<◌, true, length, get_or, refl, ap, ◌∙◌, arith, below_more, length-set}
use Rattle.std.proofs.lemmas.List.{get_or-set_same, get_or-set_other, length-map}
use Rattle.std.proofs.lemmas.Option.{slice_get-map, slice_get_read}
use Rattle.std.specs.Option.{option_map}
use Rattle.std.specs.Prelude.{slice_set}
use Rattle.node_program.specs.Term.{step_of}
use Rattle.unroll.specs.RightReads.{round_reads_right}
use Rattle.unroll.proofs.IgnoredRight.{round_reads}
use Rattle.unroll.proofs.right_reads.rounds_use_right.Goals as goal

pub loop-round-preserved : goal.loop-round-preserved
loop-round-preserved c =
    let p = c.args.plan.now.program in
    let uses = c.loop-round.uses in
    let i = c.loop-round.round in
    let steps = c.steps-step-items.result.now in
    let step = c.step-item.result in
    let item = ap (option_map step_of)
    (slice_get_read steps (length steps) i step refl c.loop-round-test.true c.step-item.is) in
    let here = rw (c.steps-step-items.ensures.value, c.program-program.ensures.value) at
    (slice_get-map step_of steps i ∙ item) in
    let long = ap length c.steps-step-items.ensures.value in
    let within : i < length uses =
    omega (
      arith,
      c.loop-round-test.true,
      long,
      length-map steps step_of,
      c.steps-step-items.ensures.limits.rounds,
      c.loop-round.invariant.size,
    ) in
    record {
      size = length-set uses i c.any_uses_right.result ∙ c.loop-round.invariant.size;
      read = below_more (λ k. get_or (slice_set uses i c.any_uses_right.result) k true ≡ round_reads_right p k) i
          (λ k lt. get_or-set_other uses i k c.any_uses_right.result true (omega (arith, lt))
          ∙ c.loop-round.invariant.read k lt)
          (get_or-set_same uses i c.any_uses_right.result true within
          ∙ rw c.deref.ensures.value at c.any_uses_right.ensures ∙ round_reads p i step here);
    }
