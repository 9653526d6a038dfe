use Rattle.std.specs.Prelude.{nat_le, length}
use Rattle.node_program.specs.Term.{step_terms}
use Rattle.lang_check.proofs.OccurrenceLemmas.{found-program}
use Rattle.lang_check.proofs.refusals.missing_register.Goals as goal

pub returns : goal.returns
returns c =
    let whole =
    found-program (λ j. nat_le (length c.args.program.now.start) j) c.args.program.now.start
    (step_terms c.args.program.now.steps) c.args.program.now.finish in
    rw (whole, ← c.registers-count.ensures.value)
    (rw (← c.start.ensures.value, ← c.steps.ensures.value, ← c.finish.ensures.value)
    (rw (← c.missing_in_rounds-in_rounds.ensures, ← c.missing_in_term.ensures, ← c.or-later.ensures, ← c.missing_in_terms.ensures)
    c.or.ensures))
