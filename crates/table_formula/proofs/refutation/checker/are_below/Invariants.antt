use Rattle.std.proofs.Common.{◌≡◌, nat_lt, drop}
use Rattle.std.specs.List.{list_all}
use Rattle.table_formula.proofs.refutation.checker.are_below.Given as goal

abbrev pub invariant-loop-l : goal.invariant-loop-l
invariant-loop-l l = list_all (λ k. nat_lt k.variable l.variables) (drop l.l-index l.clause)
    ≡ list_all (λ k. nat_lt k.variable l.variables) l.clause
