use Rattle.std.proofs.Common.{length, ap, arith}
use Rattle.table_formula.specs.Problems.{problem_of}
use Rattle.table_formula.proofs.ClauseLists.{formula_length}
use Rattle.table_formula.proofs.Satisfied.{apart_same}
use Rattle.table_formula.proofs.formula.Formula.new.Goals as goal

pub conflicts_for-requires : goal.conflicts_for-requires
conflicts_for-requires c =
    let p = problem_of c.args.shape c.args.channels c.args.separation c.args.forbidden.now in
    omega (arith, ap length (apart_same p), formula_length p, c.in_ok-apart.ensures.limits.few_clauses)
