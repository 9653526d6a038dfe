use Rattle.std.proofs.Common.{◌≡◌, map, take, drop, true}
use Rattle.table_formula.specs.Clauses.{has_literal}
use Rattle.table_formula.specs.Marked.{is_marked, variables_of}
use Rattle.table_formula.specs.declared.literal.Literal.{Literal as Lit}
use Rattle.table_formula.specs.Exchanges.{exchanged_literal}
use Rattle.table_formula.specs.Derivations.{is_known}
use Rattle.table_formula.proofs.refutation.clauses.Clauses.mark_exchanged.Given as goal

abbrev pub invariant-loop-l : goal.invariant-loop-l
invariant-loop-l l = record {
  marked : (k : Lit) → is_marked l.marks k
      ≡ has_literal (map (exchanged_literal l.self.formula.now l.exchange) (take l.l-index l.clause)) k;
  variables : variables_of l.marks ≡ variables_of l.fn.marks;
  known : is_known l.self.formula.now (drop l.l-index l.clause) ≡ true;
}
