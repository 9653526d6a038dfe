use Rattle.std.proofs.Common.{append-nil, sym}
use Rattle.std.specs.Prelude.{None}
use Rattle.fault_notes.proofs.text_notes.write_advice.Goals as goal

-- Fixed advice names no edit.
pub returns-in-Some : goal.returns-in-Some
returns-in-Some c = (
  c.in-Some.advice.now,
  record { fact = c.in-Some.advice.now; repair = None; helps = tt; is = sym (append-nil c.in-Some.advice.now) },
  c.in_ok-push_str.ensures.bytes,
)
