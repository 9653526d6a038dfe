use Rattle.lang_check.specs.Occurrences.{reads_identifier}
use Rattle.lang_check.proofs.OccurrenceLemmas.{list_any-after_start}
use Rattle.lang_check.proofs.refusals.id_is_misplaced.Goals as goal

pub returns-then-rounds_use_id : goal.returns-then-rounds_use_id
returns-then-rounds_use_id c =
    rw (← c.steps.ensures.value, list_any-after_start reads_identifier c.steps.result.now c.args.program.now.finish)
    (rw (← c.rounds_use_id.ensures, c.if-rounds_use_id.true))

pub returns-else-rounds_use_id : goal.returns-else-rounds_use_id
returns-else-rounds_use_id c =
    rw (← c.steps.ensures.value, list_any-after_start reads_identifier c.steps.result.now c.args.program.now.finish)
    (rw (← c.rounds_use_id.ensures, c.if-rounds_use_id.false, ← c.finish.ensures.value) c.uses_id.ensures)
