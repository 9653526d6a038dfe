use Rattle.std.proofs.Common.{◌≡◌, ◌≤◌, ◌∙◌, ap, is_some, false, length, arith, rules}
use Rattle.std.proofs.KnownBytes.{Consumes-trans}
use Rattle.std.proofs.lemmas.Grind.{common_steps}
use Rattle.std.proofs.lemmas.List.{take-append-le}
use Rattle.devices.proofs.Known.{on_err}
use Rattle.devices.specs.Watched.{has_failed}
use Rattle.devices.proofs.input.read_input.Goals.{else-reads-test, then-reads-test+then-len-most}
use Rattle.devices.proofs.input.read_input.Goals.{then-reads-test+else-len-most+in_ok-count+then-count-eq0}
use Rattle.devices.proofs.input.read_input.Goals as goal

-- The last bytes were taken from the reader, and there was no memory to keep them.
pub returns-in_err-extend_from_slice-clause-refused : goal.returns-in_err-extend_from_slice-clause-refused
returns-in_err-extend_from_slice-clause-refused g c =
    let last = c.in_ok-count.ensures.bytes.0 in
    let bound = c.in_ok-count.ensures.bound in
    on_err c.from_residual-in_err-extend_from_slice.result
    (_, Consumes-trans _ _ _ _ _ c.reads.invariant.taken last, grind (arith, common_steps))

-- The bytes that came follow those that were read before.
pub reads-preserved : goal.reads-preserved
reads-preserved g c =
    let last = c.in_ok-count.ensures.bytes.0 in
    let bound = c.in_ok-count.ensures.bound in
    let within : c.in_ok-count.count ≤ length c.read.new.buffer = search rules in
    record {
      taken = rw (c.in_ok-extend_from_slice.ensures.items, take-append-le)
          (Consumes-trans _ _ _ _ _ c.reads.invariant.taken last);
      turns = grind (arith, common_steps);
      bounded = grind (arith, common_steps);
      working = search rules;
      asked = search rules;
    }

-- The reads end where the limit is reached or where a read gave no byte.
pub returns-clause-input : goal.returns-clause-input
returns-clause-input g c =
    let inv = c.reads.invariant in
    elim c.reads-test.branch [
      | else-reads-test w ↦ record { taken = rw w.reader-is inv.taken; bounded = inv.bounded; whole = λ less. absurd (omega arith) }
      | then-reads-test+then-len-most w ↦ record { taken = rw w.reader-is inv.taken; bounded = inv.bounded; whole = λ less. absurd (omega arith) }
      | then-reads-test+else-len-most+in_ok-count+then-count-eq0 w ↦ search rules
    ]

-- No read has failed.
pub returns-clause-failed : goal.returns-clause-failed
returns-clause-failed g c =
    let inv = c.reads.invariant in
    let working : has_failed c.reads-test.reader ≡ false = elim c.reads-test.branch [
      | else-reads-test w ↦ rw w.reader-is inv.working
      | then-reads-test+then-len-most w ↦ rw w.reader-is inv.working
      | then-reads-test+else-len-most+in_ok-count+then-count-eq0 w ↦ rw w.reader-is
          (ap is_some w.in_ok-count.ensures.call.noted ∙ inv.working)
    ] in
    record { fault_is = tt; failed_is = (λ none. absurd (cc), λ failed. absurd (cc)) }

pub returns-clause-refused : goal.returns-clause-refused
returns-clause-refused g c = tt
