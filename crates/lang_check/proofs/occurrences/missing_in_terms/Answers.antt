use Rattle.std.specs.Prelude.{nat_le}
use Rattle.lang_check.proofs.OccurrenceLemmas.{found_more}
use Rattle.lang_check.proofs.occurrences.missing_in_terms.Goals as goal

pub loop-expression-preserved : goal.loop-expression-preserved
loop-expression-preserved c =
    let more =
    found_more (λ j. nat_le c.args.count j) c.args.expressions.now c.loop-expression.expression-index
    c.expression-item.result c.loop-expression-test.true in
    rw (more, ← c.loop-expression.invariant, ← c.expression-item.is, ← c.missing_in_term.ensures) c.or-found.ensures
