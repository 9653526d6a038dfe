use Rattle.std.specs.Prelude.{nat_le}
use Rattle.node_program.specs.Term.{step_of}
use Rattle.lang_check.proofs.OccurrenceLemmas.{found-round, found_more_rounds}
use Rattle.lang_check.proofs.occurrences.missing_in_rounds.Goals as goal

pub loop-round-preserved : goal.loop-round-preserved
loop-round-preserved c =
    let more =
    found_more_rounds (λ j. nat_le c.args.count j) c.args.rounds.now c.loop-round.round-index c.round-item.result
    c.loop-round-test.true in
    let here = found-round (λ j. nat_le c.args.count j) (step_of c.round-item.result) in
    rw (more, ← c.loop-round.invariant, ← c.round-item.is, here)
    (rw (← c.missing_in_term.ensures, ← c.missing_in_term-in-loop-round.ensures, ← c.or-sent.ensures)
    (rw (← c.deref.ensures.value, ← c.missing_in_terms.ensures, ← c.or.ensures) c.or-found.ensures))
