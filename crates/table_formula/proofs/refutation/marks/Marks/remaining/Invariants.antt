use Rattle.std.proofs.Common.{◌≡◌, ◌++◌, drop, option_to_list, IfSome, ◌<◌}
use Rattle.table_formula.specs.Hints.{remaining_of, left_of}
use Rattle.table_formula.specs.Marked.{is_marked, variables_of}
use Rattle.table_formula.proofs.refutation.marks.Marks.remaining.Given as goal

abbrev pub invariant-loop-l : goal.invariant-loop-l
invariant-loop-l l = record {
  left : remaining_of (option_to_list l.found ++ left_of (is_marked l.self) (drop l.l-index l.clause))
      ≡ remaining_of (left_of (is_marked l.self) l.clause);
  below : IfSome l.found (λ k. k.variable < variables_of l.self);
}
