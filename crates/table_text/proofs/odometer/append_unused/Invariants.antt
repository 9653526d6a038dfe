use Rattle.std.proofs.Common.{◌≡◌, ◌+◌, ◌++◌, length, take}
use Rattle.win_index.specs.Windows.{unused}
use Rattle.table_text.proofs.odometer.append_unused.Given as goal

-- the numbers below this one that the window lacks stand behind it
abbrev pub invariant-loop-id : goal.invariant-loop-id
invariant-loop-id l =
    record {
      size : length l.order ≡ length l.initial.order;
      filled : l.filled ≡ l.fn.front + length (unused l.id-counter (take l.fn.front l.initial.order));
      front : take l.filled l.order ≡ take l.fn.front l.initial.order
          ++ unused l.id-counter (take l.fn.front l.initial.order);
    }
