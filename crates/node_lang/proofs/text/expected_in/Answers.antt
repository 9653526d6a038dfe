use Rattle.std.proofs.Common.{subst, rules}
use Rattle.node_lang.specs.Following.{IsExpectedAt}
use Rattle.node_lang.proofs.Judging.{no_fault, one_fault, short_in_tokens}
use Rattle.node_lang.proofs.text.expected_in.Goals as goal
use Rattle.node_lang.proofs.text.expected_in.Goals.{in-Ok, in-Err+in-OutOfMemory, in-Err+in_default}

-- A program has no fault, and any other text one.
pub returns-clause-fault : goal.returns-clause-fault
returns-clause-fault c =
    let text = c.args.text.now in
    elim c.match-read.branch [
      | in-Ok w ↦ rw w.result-is
          (λ k offset f. absurd (no_fault text w.in-Ok.field-0 k offset w.in-Ok.ensures.program f))
      | in-Err+in-OutOfMemory w ↦ rw w.result-is tt
      | in-Err+in_default w ↦ rw w.result-is (λ k offset f.
          let known = w.in_default.not-OutOfMemory in
          let same = one_fault text w.in-Err.stop.kind k w.in-Err.stop.offset offset
          (w.in-Err.ensures.stop.fault known) f in
          let own = short_in_tokens text k offset c.if-text-gt-LONGEST_TEXT.false (search rules) f in
          (own.0, own.1, subst (λ o. IsExpectedAt text o w.in-Err.stop.expected) same.1 (w.in-Err.ensures.stop.expected known)))
    ]
