use Rattle.std.proofs.Common.{◌≡◌, ◌+◌, ◌*◌, ◌≤◌, ◌++◌, length, take}
use Rattle.devices.specs.Output.{buffered_text}
use Rattle.table_text.specs.Sections.{bucket_lines}
use Rattle.table_text.proofs.sections.BucketLinesToBytes.store.Given as goal

-- the lines so far are stored
abbrev pub invariant-loop-index : goal.invariant-loop-index
invariant-loop-index l =
    record {
      from : l.fn.start ≤ l.end;
      few : l.end ≤ l.fn.start + l.index * (length (buffered_text l.self.prefix) + 16);
      stored : take l.end l.bytes
          ≡ take l.fn.start l.initial.bytes
          ++ bucket_lines (buffered_text l.self.prefix) (take l.index l.self.last_ids.now) (take l.index l.self.channels.now);
    }
