use Rattle.std.proofs.Common.{◌≡◌, ◌<◌, ◌≤◌, drop, get_or}
use Rattle.nbhd_check.specs.FarSearch.{AreFarFreeIn, ArePairNumbers}
use Rattle.nbhd_check.proofs.far_counts.Family.free_with_seconds.Given as goal

-- the windows with a second identifier before this one are searched, and the numbers are those for this one
abbrev pub invariant-loop-second : goal.invariant-loop-second
invariant-loop-second l =
    (l.least ≤ l.fn.least)
    × AreFarFreeIn l.self.table.now l.self.distance l.least
    (λ window. (get_or window 0 0 ≡ l.first) × (l.low ≤ get_or window 1 0) × (get_or window 1 0 < l.second)
    × (drop 2 window ≡ l.self.shared.now))
    × (l.second < l.end → ArePairNumbers l.self.table.now l.self.shared.now l.first l.second l.numbers)
