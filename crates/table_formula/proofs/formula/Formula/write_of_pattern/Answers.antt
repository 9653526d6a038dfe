use Rattle.std.proofs.Common.{◌≡◌, ◌/◌, ◌%◌, ◌<◌, ◌≤◌, [], Some, length, get_or, slice_get, sym, ap, ◌∙◌, subst}
use Rattle.std.proofs.Common.{arith, true}
use Rattle.std.proofs.lemmas.Option.{get_or_from_slice_get, slice_get-get_or}
use Rattle.ring_problems.specs.Patterns.{extra, is_below}
use Rattle.ring_problems.specs.TupleLists.{tuples_below}
use Rattle.table_formula.specs.Problems.{Problem, problem_of}
use Rattle.table_formula.specs.Formula.{no_match, ring_tuples, pattern_clauses}
use Rattle.table_formula.proofs.PatternClauses.{pattern_splits, pattern_clause, possible_pattern}
use Rattle.table_formula.proofs.formula.Formula.write_of_pattern.Goals as goal

pub nonzero_div-index : goal.nonzero_div-index
nonzero_div-index c =
    let f = c.self.inside in
    (pattern_splits (problem_of f.shape f.channels f.separation f.forbidden.items) c.args.index c.len-count.result
    (subst (λ q. c.args.index < length (pattern_clauses q)) (sym c.self.view_is) c.requires.below)
    (omega (arith, c.len-count.ensures, f.possible.ok.0, ap length c.self.invariant.possible_is))).some

pub nonzero_rem-index : goal.nonzero_rem-index
nonzero_rem-index c =
    let f = c.self.inside in
    (pattern_splits (problem_of f.shape f.channels f.separation f.forbidden.items) c.args.index c.len-count.result
    (subst (λ q. c.args.index < length (pattern_clauses q)) (sym c.self.view_is) c.requires.below)
    (omega (arith, c.len-count.ensures, f.possible.ok.0, ap length c.self.invariant.possible_is))).some

pub write_tuple-requires-clause-below : goal.write_tuple-requires-clause-below
write_tuple-requires-clause-below c =
    let f = c.self.inside in
    subst (λ problem. c.args.index / c.len-count.result < length (tuples_below f.shape.ids f.shape.rounds problem))
    (sym c.deref-2.ensures.value)
    (pattern_splits (problem_of f.shape f.channels f.separation f.forbidden.items) c.args.index c.len-count.result
    (subst (λ q. c.args.index < length (pattern_clauses q)) (sym c.self.view_is) c.requires.below)
    (omega (arith, c.len-count.ensures, f.possible.ok.0, ap length c.self.invariant.possible_is))).tuple

pub index-requires : goal.index-requires
index-requires c =
    let f = c.self.inside in
    let cut = (pattern_splits (problem_of f.shape f.channels f.separation f.forbidden.items) c.args.index c.len-count.result
    (subst (λ q. c.args.index < length (pattern_clauses q)) (sym c.self.view_is) c.requires.below)
    (omega (arith, c.len-count.ensures, f.possible.ok.0, ap length c.self.invariant.possible_is))) in
    omega (arith, cut.pattern, f.possible.ok.0, ap length c.self.invariant.possible_is)

pub write_no_match-requires-clause-below : goal.write_no_match-requires-clause-below
write_no_match-requires-clause-below c =
    let f = c.self.inside in
    let view : Problem = problem_of f.shape f.channels f.separation f.forbidden.items in
    let cut = (pattern_splits view c.args.index c.len-count.result
    (subst (λ q. c.args.index < length (pattern_clauses q)) (sym c.self.view_is) c.requires.below)
    (omega (arith, c.len-count.ensures, f.possible.ok.0, ap length c.self.invariant.possible_is))) in
    let item = slice_get-get_or f.possible.items (c.args.index % c.len-count.result) c.index.result.now
    (omega (arith, cut.pattern, ap length c.self.invariant.possible_is)) ∙ ap Some (sym c.index.ensures) in
    subst (λ (q : Problem). is_below q.channels c.index.result.now ≡ true) c.self.view_is
    (possible_pattern view f.possible.items (c.args.index % c.len-count.result) c.index.result.now c.self.invariant.possible_is item).0

pub write_no_match-requires-clause-third : goal.write_no_match-requires-clause-third
write_no_match-requires-clause-third c third =
    let f = c.self.inside in
    let view : Problem = problem_of f.shape f.channels f.separation f.forbidden.items in
    let cut = (pattern_splits view c.args.index c.len-count.result
    (subst (λ q. c.args.index < length (pattern_clauses q)) (sym c.self.view_is) c.requires.below)
    (omega (arith, c.len-count.ensures, f.possible.ok.0, ap length c.self.invariant.possible_is))) in
    let item = slice_get-get_or f.possible.items (c.args.index % c.len-count.result) c.index.result.now
    (omega (arith, cut.pattern, ap length c.self.invariant.possible_is)) ∙ ap Some (sym c.index.ensures) in
    subst (λ (q : Problem). 2 ≤ extra q.forbidden) c.self.view_is
    ((possible_pattern view f.possible.items (c.args.index % c.len-count.result) c.index.result.now c.self.invariant.possible_is item).1 third)

pub returns-clause-item : goal.returns-clause-item
returns-clause-item c =
    let f = c.self.inside in
    let count = c.len-count.result in
    let view : Problem = problem_of f.shape f.channels f.separation f.forbidden.items in
    let tuple = c.write_tuple.new.out in
    let cut = (pattern_splits view c.args.index count
    (subst (λ q. c.args.index < length (pattern_clauses q)) (sym c.self.view_is) c.requires.below)
    (omega (arith, c.len-count.ensures, f.possible.ok.0, ap length c.self.invariant.possible_is))) in
    let item : slice_get (ring_tuples view) (c.args.index / count) ≡ Some tuple =
    subst (λ problem. slice_get (tuples_below f.shape.ids f.shape.rounds problem) (c.args.index / count) ≡ Some tuple) c.deref-2.ensures.value
    c.write_tuple.ensures.item in
    let pattern = ap (λ ps. get_or ps (c.args.index % count) c.index.result.now) (sym c.self.invariant.possible_is)
    ∙ sym c.index.ensures in
    let clause = pattern_clause view (c.args.index / count) (c.args.index % count) c.args.index tuple c.index.result.now cut.tuple cut.pattern
    cut.at' (get_or_from_slice_get (ring_tuples view) (c.args.index / count) tuple [] item) pattern in
    subst (λ (q : Problem). slice_get (pattern_clauses q) c.args.index ≡ Some (no_match q tuple c.index.result.now)) c.self.view_is clause
    ∙ ap Some (sym c.write_no_match.ensures.items)
