use Rattle.std.proofs.Common.{◌≡◌, ◌++◌, string_bytes, take}
use Rattle.fault_notes.specs.Repairs.{written}
use Rattle.fault_notes.proofs.edits.write_put.Given as goal

abbrev pub invariant-bytes : goal.invariant-bytes
invariant-bytes l = string_bytes l.out ≡ string_bytes l.initial.out ++ written (take l.byte-index l.put)
