use Rattle.std.proofs.Common.{◌≡◌, ◌+◌, ◌-◌, ◌*◌, ◌≤◌, ◌++◌, length}
use Rattle.table_text.specs.Sections.{lines_from, Shows}
use Rattle.table_text.proofs.sections.Lines.store_next.Given as goal

-- the odometer shows the next window, and the chunk has the lines of the windows before it
abbrev pub invariant-loop-next : goal.invariant-loop-next
invariant-loop-next l =
    record {
      from : l.fn.first ≤ l.next;
      within : l.next ≤ l.end;
      shows : Shows l.self.table.now l.next l.odometer;
      stored : l.chunk ≡ l.initial.chunk ++ lines_from l.self.table.now l.fn.first (l.next - l.fn.first);
      filled : length l.chunk ≤ length l.initial.chunk + (l.next - l.fn.first) * (16 * l.self.table.now.rounds + 16);
    }

abbrev pub decreases-loop-next : goal.decreases-loop-next
decreases-loop-next l = l.end - l.next
