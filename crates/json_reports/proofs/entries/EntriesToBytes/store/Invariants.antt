use Rattle.std.proofs.Common.{◌≡◌, ◌+◌, ◌*◌, ◌≤◌, ◌++◌, length, take}
use Rattle.std.specs.List.{flat_map}
use Rattle.json_reports.specs.TableTexts.{entry_text}
use Rattle.json_reports.specs.declared.entries.TheConstants.{ROOM}
use Rattle.json_reports.proofs.entries.EntriesToBytes.store.Given as goal

-- the channels so far are stored
abbrev pub invariant-loop-entry : goal.invariant-loop-entry
invariant-loop-entry l = record {
  from : l.fn.start ≤ l.end;
  few : l.end ≤ l.fn.start + l.entry-index * ROOM;
  len : length l.bytes ≡ length l.initial.bytes;
  stored : take l.end l.bytes ≡ take l.fn.start l.initial.bytes
      ++ flat_map entry_text (take l.entry-index l.self.entries.now);
}
