use Rattle.std.proofs.Common.{◌≡◌, ◌++◌, false, take}
use Rattle.std.specs.List.{flat_map}
use Rattle.devices.specs.Output.{IsWrittenSoFar}
use Rattle.devices.specs.Watched.{device_of, has_failed}
use Rattle.table_formula.specs.Formula.{formula}
use Rattle.table_formula.specs.Texts.{clause_text, head_text}
use Rattle.table_formula.proofs.formula.text.write_clauses.Given as goal

-- the clauses so far are written or in the chunk
abbrev pub invariant-loop-index : goal.invariant-loop-index
invariant-loop-index g l = record {
  told : IsWrittenSoFar (g.W.Write.contents (device_of l.initial.writer))
      (g.W.Write.contents (device_of l.writer)) l.chunk
      (head_text l.formula ++ flat_map clause_text (take l.index (formula l.formula)));
  working : has_failed l.writer ≡ false;
}
