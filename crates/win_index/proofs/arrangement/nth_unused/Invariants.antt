use Rattle.std.proofs.Common.{◌≡◌, ◌+◌, ◌-◌, ◌≤◌, length}
use Rattle.win_index.specs.Windows.{unused}
use Rattle.win_index.proofs.arrangement.nth_unused.Given as goal

abbrev pub invariant-loop-lacking : goal.invariant-loop-lacking
invariant-loop-lacking l = record {
  some : 1 ≤ l.end;
  inside : l.end ≤ l.ids;
  before_end : length (unused (l.end - 1) l.before) ≤ l.place;
  lacking : length (unused l.end l.before) + l.lacking ≡ l.place + 1;
}

abbrev pub decreases-loop-lacking : goal.decreases-loop-lacking
decreases-loop-lacking l = l.ids - l.end
