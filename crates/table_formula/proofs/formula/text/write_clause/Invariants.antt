use Rattle.std.proofs.Common.{◌≡◌, ◌++◌, false, take}
use Rattle.std.specs.List.{flat_map}
use Rattle.devices.specs.Output.{IsWrittenSoFar}
use Rattle.devices.specs.Watched.{device_of, has_failed}
use Rattle.table_formula.specs.Texts.{literal_text}
use Rattle.table_formula.proofs.formula.text.write_clause.Given as goal

-- the literals so far are written or in the chunk
abbrev pub invariant-loop-l : goal.invariant-loop-l
invariant-loop-l g l = record {
  told : IsWrittenSoFar (g.W.Write.contents (device_of l.initial.writer))
      (g.W.Write.contents (device_of l.writer)) l.chunk
      (l.fn.chunk ++ flat_map literal_text (take l.l-index l.clause));
  working : has_failed l.writer ≡ false;
}
