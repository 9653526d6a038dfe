use Rattle.std.proofs.Common.{◌≡◌, ℕ, ◌+◌, ◌*◌, ◌<◌, ◌≤◌, List, [], length, slice_index_or}
use Rattle.table_text.specs.Sections.{lines_from, Shows}
use Rattle.table_text.proofs.sections.Lines.store_sections.Given as goal

-- the odometer shows the next window, the chunks so far have their lines, and the others are empty
abbrev pub invariant-loop-index : goal.invariant-loop-index
invariant-loop-index l =
    record {
      size : length l.chunks ≡ length l.initial.chunks;
      next : l.next ≡ l.fn.first + l.index * l.self.size;
      shows : Shows l.self.table.now l.next l.odometer;
      filled : (k : ℕ) (d : List ℕ) → k < l.index →
          slice_index_or l.chunks k d ≡ lines_from l.self.table.now (l.fn.first + k * l.self.size) l.self.size;
      left : (k : ℕ) (d : List ℕ) → l.index ≤ k → k < length l.chunks → slice_index_or l.chunks k d ≡ [];
    }
