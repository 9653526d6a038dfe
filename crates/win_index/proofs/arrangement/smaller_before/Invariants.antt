use Rattle.std.proofs.Common.{◌≡◌, ◌≤◌, take, nat_lt, count_by}
use Rattle.win_index.proofs.arrangement.smaller_before.Given as goal

-- the elements before this index are counted
abbrev pub invariant-loop-i : goal.invariant-loop-i
invariant-loop-i l = record {
  counted : l.count ≡ count_by (λ y. nat_lt y l.x) (take l.i l.before);
  few : l.count ≤ l.i;
}
