use Rattle.std.proofs.Common.{◌≡◌, take}
use Rattle.table_formula.specs.Clauses.{has_literal}
use Rattle.table_formula.specs.Marked.{is_marked, variables_of}
use Rattle.table_formula.specs.declared.literal.Literal.{Literal as Lit}
use Rattle.table_formula.proofs.refutation.marks.Marks.take_clause.Given as goal

abbrev pub invariant-loop-l : goal.invariant-loop-l
invariant-loop-l l = record {
  marked : (k : Lit) → is_marked l.self k ≡ has_literal (take l.l-index l.clause) k;
  variables : variables_of l.self ≡ variables_of l.fn.self;
}
