use Rattle.std.proofs.Common.{◌≡◌, length, sym, ◌∙◌, arith}
use Rattle.table_formula.specs.Problems.{problem_of}
use Rattle.table_formula.specs.Formula.{apart_formula}
use Rattle.table_formula.proofs.PatternClauses.{total}
use Rattle.table_formula.proofs.Sizes.{sizes_are, apart_count, few_variables, many_clauses}
use Rattle.table_formula.proofs.formula.clauses_of.Goals as goal

pub returns-in_default-clause-err : goal.returns-in_default-clause-err
returns-in_default-clause-err c =
    let shape = c.args.shape in
    let p = problem_of shape c.args.channels c.args.separation c.args.forbidden.now in
    let are = sizes_are p c.from-windows.ensures c.count.ensures.value c.rounds.ensures c.count-tuples.ensures
    c.conflict_count-pairs.ensures in
    (few_variables p _ _ _ c.from.result are c.from.ensures c.if-windows-from-gt-MAX_VARIABLES.false, many_clauses p _ _ _ are c.in_default.ensures)

pub returns-in_default-clause_count-clause-err : goal.returns-in_default-clause_count-clause-err
returns-in_default-clause_count-clause-err c =
    let shape = c.args.shape in
    let p = problem_of shape c.args.channels c.args.separation c.args.forbidden.now in
    let are = sizes_are p c.from-windows.ensures c.count.ensures.value c.rounds.ensures c.count-tuples.ensures
    c.conflict_count-pairs.ensures in
    let apart : c.in-Some.apart ≡ length (apart_formula p) = c.in-Some.ensures.0 ∙ sym (apart_count p _ _ _ are) in
    let all = total p c.in-Some.apart c.tuple_count-rings.result c.possible_count-possible.result apart c.tuple_count-rings.ensures
    c.possible_count-possible.ensures.value in
    (few_variables p _ _ _ c.from.result are c.from.ensures c.if-windows-from-gt-MAX_VARIABLES.false, λ few. omega (arith, all, c.in_default-clause_count.ensures, few))

pub returns-clause-ok : goal.returns-clause-ok
returns-clause-ok c =
    let shape = c.args.shape in
    let p = problem_of shape c.args.channels c.args.separation c.args.forbidden.now in
    let are = sizes_are p c.from-windows.ensures c.count.ensures.value c.rounds.ensures c.count-tuples.ensures
    c.conflict_count-pairs.ensures in
    let apart : c.in-Some.apart ≡ length (apart_formula p) = c.in-Some.ensures.0 ∙ sym (apart_count p _ _ _ are) in
    let all = total p c.in-Some.apart c.tuple_count-rings.result c.possible_count-possible.result apart c.tuple_count-rings.ensures
    c.possible_count-possible.ensures.value in
    (apart, c.in-Some-clause_count.ensures.0 ∙ sym all)

pub returns-clause-limits : goal.returns-clause-limits
returns-clause-limits c =
    let shape = c.args.shape in
    let p = problem_of shape c.args.channels c.args.separation c.args.forbidden.now in
    let are = sizes_are p c.from-windows.ensures c.count.ensures.value c.rounds.ensures c.count-tuples.ensures
    c.conflict_count-pairs.ensures in
    let apart : c.in-Some.apart ≡ length (apart_formula p) = c.in-Some.ensures.0 ∙ sym (apart_count p _ _ _ are) in
    let all = total p c.in-Some.apart c.tuple_count-rings.result c.possible_count-possible.result apart c.tuple_count-rings.ensures
    c.possible_count-possible.ensures.value in
    record {
      few_variables = few_variables p _ _ _ c.from.result are c.from.ensures c.if-windows-from-gt-MAX_VARIABLES.false;
      few_clauses = omega (arith, all, c.in-Some-clause_count.ensures.0, c.in-Some-clause_count.ensures.1);
    }
