use Rattle.std.proofs.Common.{◌≡◌, ◌<◌, ◌≤◌, drop, get_or}
use Rattle.nbhd_check.specs.FarSearch.{AreFarFreeIn}
use Rattle.nbhd_check.proofs.far_counts.Family.free.Given as goal

-- the windows with a first identifier before this one are searched
abbrev pub invariant-loop-first : goal.invariant-loop-first
invariant-loop-first l =
    (l.least ≤ l.fn.least)
    × AreFarFreeIn l.self.table.now l.self.distance l.least
    (λ window. (get_or window 0 0 < l.first) × (drop 2 window ≡ l.self.shared.now))
