use Rattle.std.proofs.Common.{◌≡◌, ◌≢◌, ℕ, ◌<◌, ◌≤◌, get_or, sym, ◌∙◌, ap, arith, ⊎_elim}
use Rattle.std.proofs.lemmas.Bool.{cases_lt}
use Rattle.std.proofs.lemmas.List.{get_or_default}
use Rattle.nbhd_check.proofs.far_counts.Family.end_of_free.Goals.{then-low-id+then-id-end, else-low-id}
use Rattle.nbhd_check.proofs.far_counts.Family.end_of_free.Goals.{else-low-id-via-then-low-id+else-id-end}
use Rattle.nbhd_check.proofs.far_counts.Family.end_of_free.Goals.{else-low-id-via-else-low-id}
use Rattle.nbhd_check.proofs.far_counts.Family.end_of_free.Goals as goal

pub loop-place-preserved : goal.loop-place-preserved
loop-place-preserved c =
    let ids = c.args.self.shared.now in
    let id = get_or ids c.loop-place.place 0 in
    let before = c.loop-place.invariant in
    elim c.if-low-id.branch [
      | then-low-id+then-id-end w ↦ (
        (omega (arith, w.end-is, w.if-low-id.true), omega (arith, w.end-is, w.if-id-end.true, before.0.1)),
        λ x low lt. before.1 x low (omega (arith, lt, w.end-is, w.if-id-end.true)),
        λ i x lt low below same. ⊎_elim
            (λ (earlier : i < c.loop-place.place). before.2 i x earlier low (omega (arith, below, w.end-is, w.if-id-end.true)) same)
            (λ (here : c.loop-place.place ≤ i).
            let at : c.loop-place.place ≡ i = omega (arith, lt, here) in
            absurd (omega (arith, below, w.end-is, ap (λ j. get_or ids j 0) at ∙ same)))
            (cases_lt i c.loop-place.place),
        λ lt other. (c.loop-place.place, c.loop-place-test.true, get_or_default ids c.loop-place.place c.if-low-id.end 0 c.loop-place-test.true ∙ sym w.end-is),
      )
      | else-low-id w ↦
          let close : (x : ℕ) → c.args.low ≤ x → x < c.loop-place.end → id ≢ x =
          λ x low lt same. elim w.else-low-id.branch [
            | else-low-id-via-then-low-id+else-id-end w' ↦ absurd (omega (arith, lt, same, w'.if-id-end.false))
            | else-low-id-via-else-low-id w' ↦ absurd (omega (arith, low, same, w'.if-low-id.false))
          ] in (
            (omega (arith, w.end-is, before.0), omega (arith, w.end-is, before.0.1)),
            λ x low lt. before.1 x low (omega (arith, lt, w.end-is)),
            λ i x lt low below same. ⊎_elim
                (λ (earlier : i < c.loop-place.place). before.2 i x earlier low (omega (arith, below, w.end-is)) same)
                (λ (here : c.loop-place.place ≤ i).
                let at : c.loop-place.place ≡ i = omega (arith, lt, here) in
                close x low (omega (arith, below, w.end-is)) (ap (λ j. get_or ids j 0) at ∙ same))
                (cases_lt i c.loop-place.place),
            rw w.end-is before.3,
          )
    ]

pub returns-clause-free : goal.returns-clause-free
returns-clause-free c = λ x low lt.
    let own = c.loop-place.invariant in (
      own.1 x low lt,
      λ has. own.2 has.0 x (omega (arith, has.1, c.loop-place-test.false)) low lt
          (get_or_default c.args.self.shared.now has.0 0 x has.1 ∙ has.2),
    )
