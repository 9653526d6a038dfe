use Rattle.std.proofs.Common.{arith}
use Rattle.fault_notes.proofs.Causes.{found}
use Rattle.fault_notes.proofs.cause_tokens.offset_of_cause.Goals as goal

pub tokens-init : goal.tokens-init
tokens-init c = record { within = omega arith; same = found c.args.text.now c.args.fault }
