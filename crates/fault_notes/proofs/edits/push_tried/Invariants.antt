use Rattle.std.proofs.Common.{◌≡◌, ◌++◌, map, take}
use Rattle.fault_notes.specs.Repairs.{tried_byte}
use Rattle.fault_notes.proofs.edits.push_tried.Given as goal

abbrev pub invariant-bytes : goal.invariant-bytes
invariant-bytes l = l.out.items ≡ l.initial.out.items ++ map tried_byte (take l.byte-index l.put)
