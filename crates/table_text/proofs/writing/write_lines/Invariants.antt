use Rattle.std.proofs.Common.{◌≡◌, ◌*◌, [], false, take}
use Rattle.table_text.specs.declared.version.Version.TheVariants.{Two}
use Rattle.devices.specs.Output.{IsWrittenSoFar}
use Rattle.devices.specs.Watched.{device_of, has_failed}
use Rattle.table_text.specs.TableText.{written, lines_then}
use Rattle.table_text.specs.Sections.{Shows}
use Rattle.table_text.proofs.writing.write_lines.Given as goal

-- the lines of the sections so far are written or in the chunk, and the odometer shows the window after them
abbrev pub invariant-loop-section : goal.invariant-loop-section
invariant-loop-section g l =
    record {
      working : has_failed l.writer ≡ false;
      shows : Shows l.table (l.section * l.lines.size) l.odometer;
      told : IsWrittenSoFar (g.W.Write.contents (device_of l.initial.writer))
          (g.W.Write.contents (device_of l.writer)) l.chunk
          (lines_then (written Two (record l.table { entries = take (l.section * l.lines.size) l.table.entries })
          l.fn.separation) []);
    }
