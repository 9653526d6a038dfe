use Rattle.std.proofs.Common.{◌≡◌, ◌*◌, false, length}
use Rattle.std.specs.Io.KnownBytes.{Appends}
use Rattle.devices.specs.Watched.{device_of, has_failed}
use Rattle.table_text.specs.declared.parallel.TheConstants.{CHUNKS}
use Rattle.table_text.specs.Sections.{lines_from, AreEmpty}
use Rattle.table_text.proofs.parallel.write_rest.Given as goal

-- the lines of the sections so far are written
abbrev pub invariant-loop-part : goal.invariant-loop-part
invariant-loop-part g l =
    record {
      working : has_failed l.writer ≡ false;
      count : length l.chunks ≡ CHUNKS;
      empty : AreEmpty l.chunks;
      sent : Appends (g.W.Write.contents (device_of l.initial.writer)) (g.W.Write.contents (device_of l.writer))
          (lines_from l.fn.lines.table.now 0 (l.part * l.size));
    }
