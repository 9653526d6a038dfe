use Rattle.nbhd_check.specs.Counts.{CountsFit}
use Rattle.nbhd_check.specs.FarSearch.{AreFarFreeIn, HasFamilyIn}
use Rattle.nbhd_check.proofs.far_counts.FarCounts.free_in_families.Given as goal

-- the families so far are searched
abbrev pub invariant-loop-number : goal.invariant-loop-number
invariant-loop-number l =
    CountsFit l.self.table.now l.counts
    × AreFarFreeIn l.self.table.now l.self.distance l.least (HasFamilyIn l.self.table.now l.low l.number)
