use Rattle.std.proofs.Common.{◌≡◌, drop, length}
use Rattle.table_formula.specs.Hints.{outcome_of}
use Rattle.table_formula.specs.Marked.{is_marked, variables_of}
use Rattle.table_formula.specs.Stored.{clause_of}
use Rattle.table_formula.proofs.refutation.hints.outcome_of_hints.Given as goal

abbrev pub invariant-loop-i : goal.invariant-loop-i
invariant-loop-i l = record {
  value : outcome_of (clause_of l.clauses) (is_marked l.marks) (drop l.i l.hints)
      ≡ outcome_of (clause_of l.clauses) (is_marked l.fn.marks) l.hints;
  variables : variables_of l.marks ≡ variables_of l.fn.marks;
  room : length l.room ≡ length l.fn.room;
}
