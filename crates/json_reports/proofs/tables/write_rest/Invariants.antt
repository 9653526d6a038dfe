use Rattle.std.proofs.Common.{◌≡◌, ◌≤◌, ◌-◌, false, length, take}
use Rattle.std.specs.List.{flat_map}
use Rattle.devices.specs.Output.{IsWrittenSoFar}
use Rattle.devices.specs.Watched.{device_of, has_failed}
use Rattle.json_reports.specs.TableTexts.{entry_text}
use Rattle.json_reports.proofs.tables.write_rest.Given as goal

-- the channels so far are written or in the chunk
abbrev pub invariant-loop-first : goal.invariant-loop-first
invariant-loop-first g l = record {
  within : l.first ≤ length l.entries;
  told : IsWrittenSoFar (g.W.Write.contents (device_of l.initial.writer))
      (g.W.Write.contents (device_of l.writer)) l.chunk
      (flat_map entry_text (take l.first l.entries));
  working : has_failed l.writer ≡ false;
}

abbrev pub decreases-loop-first : goal.decreases-loop-first
decreases-loop-first g l = length l.entries - l.first
