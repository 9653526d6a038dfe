use Rattle.std.proofs.Common.{◌≡◌, length}
use Rattle.table_formula.specs.FirstFaults.{first_fault}
use Rattle.table_formula.specs.Reader.{lines_left, lines_read}
use Rattle.table_formula.specs.Checked.{problem_of, derivation_of}
use Rattle.table_formula.proofs.refutation.first_fault.Given as goal

abbrev pub invariant-reads : goal.invariant-reads
invariant-reads l = record {
  problem : problem_of l.checker ≡ problem_of l.initial.checker;
  fault : first_fault (problem_of l.initial.checker) (derivation_of l.checker) (lines_read l.lines) (lines_left l.lines)
      ≡ first_fault (problem_of l.initial.checker) (derivation_of l.initial.checker) (lines_read l.initial.lines)
      (lines_left l.initial.lines);
}

abbrev pub decreases-reads : goal.decreases-reads
decreases-reads l = length (lines_left l.lines)
