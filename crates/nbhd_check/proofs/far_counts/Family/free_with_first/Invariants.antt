use Rattle.std.proofs.Common.{◌≡◌, ◌+◌, ◌-◌, ◌<◌, ◌≤◌, drop, get_or}
use Rattle.nbhd_check.specs.FarSearch.{AreFarFreeIn}
use Rattle.nbhd_check.proofs.far_counts.Family.free_with_first.Given as goal

-- the windows with a second identifier before this one are searched
abbrev pub invariant-loop-second : goal.invariant-loop-second
invariant-loop-second l =
    (l.least ≤ l.fn.least)
    × AreFarFreeIn l.self.table.now l.self.distance l.least
    (λ window. (get_or window 0 0 ≡ l.first) × (get_or window 1 0 < l.second) × (drop 2 window ≡ l.self.shared.now))
    × (l.second ≤ l.self.table.now.ids + 1)

abbrev pub decreases-loop-second : goal.decreases-loop-second
decreases-loop-second l = l.self.table.now.ids - l.second
