use Rattle.std.proofs.Common.{◌≡◌, ◌+◌, vec_len, refl, sym, subst, arith}
use Rattle.ring_exec.specs.Outcomes.{HasMore}
use Rattle.ring_exec.proofs.Falling.{all_falling}
use Rattle.ring_exec.proofs.message_run.run_segments.Goals as goal
use Rattle.ring_exec.proofs.message_run.run_segments.Goals.{then-segments-eq1, else-segments-eq1}

pub returns-clause-all : goal.returns-clause-all
returns-clause-all g c =
    let progress = c.in_ok-progress.progress in
    let first = c.in_ok-progress.ensures.first in
    let segments = c.args.segments in
    let after = c.if-segments-eq1.joined in
    let more : HasMore progress.joined segments after =
    elim c.if-segments-eq1.branch [
      | then-segments-eq1 w ↦
          let one : vec_len progress.threads + 1 ≡ segments = omega (arith, first.1, w.if-segments-eq1.true) in
          subst (HasMore progress.joined segments) (sym w.joined-is)
          (subst (λ n. HasMore progress.joined n w.ended-joined.result) one w.ended-joined.ensures.all)
      | else-segments-eq1 w ↦
          let all : vec_len progress.threads + segments ≡ segments = omega (arith, first.1) in
          subst (HasMore progress.joined segments) (sym w.joined-is)
          (subst (λ n. HasMore progress.joined n w.run_all-joined.result) all w.run_all-joined.ensures)
    ] in
    all_falling (λ v. v.items) (λ v. vec_len v) (λ v. omega (arith, v.ok.0)) progress.joined after segments after.segments c.into_segments.result
    first.2 refl more c.into_segments.ensures.segments
