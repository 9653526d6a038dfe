use Rattle.std.specs.Prelude.{IfSome}
use Rattle.fault_notes.specs.Repairs.{IsRepair}
use Rattle.fault_notes.proofs.repair.best_of.Given as goal

abbrev pub invariant-edits : goal.invariant-edits
invariant-edits l = IfSome l.best (IsRepair l.text l.offset)
