use Rattle.std.proofs.Common.{◌≡◌, ◌∷◌, [], ◌++◌, sym}
use Rattle.std.specs.List.{list_any}
use Rattle.std.proofs.lemmas.List.Folds.{list_any-append}
use Rattle.node_program.specs.Term.{term_of}
use Rattle.lang_check.specs.Occurrences.{reads_message, sent_terms}
use Rattle.lang_check.proofs.OccurrenceLemmas.{list_any_mapped, list_any-outside_assignments}
use Rattle.lang_check.proofs.refusals.message_is_misplaced.Goals as goal
use Rattle.lang_check.proofs.refusals.message_is_misplaced.Goals.{then-any_uses_message, else-any_uses_message}

pub returns-then-sends_use_message : goal.returns-then-sends_use_message
returns-then-sends_use_message c =
    let p = c.args.program.now in
    let at_start : list_any reads_message p.start ≡ c.any_uses_message.result =
    rw (← c.start.ensures.value, list_any_mapped reads_message term_of c.start.result.now)
    (sym c.any_uses_message.ensures) in
    let after = list_any-append reads_message p.start (sent_terms p.steps ++ p.finish ∷ []) in
    elim c.if-any_uses_message.branch [
      | then-any_uses_message w ↦ rw (w.value-is, after, at_start, w.if-any_uses_message.true)
      | else-any_uses_message w ↦
          let whole =
          list_any-outside_assignments reads_message c.start.result.now w.steps.result.now p.finish in
          rw (c.if-sends_use_message.true, ← c.start.ensures.value, ← w.steps.ensures.value, whole)
          (rw (← c.any_uses_message.ensures, w.if-any_uses_message.false, ← w.sends_use_message.ensures, ← w.value-is, c.if-sends_use_message.true))
    ]

pub returns-else-sends_use_message : goal.returns-else-sends_use_message
returns-else-sends_use_message c =
    elim c.if-any_uses_message.branch [
      | then-any_uses_message w ↦ cc
      | else-any_uses_message w ↦
          let whole =
          list_any-outside_assignments reads_message c.start.result.now w.steps.result.now c.args.program.now.finish in
          rw (← c.start.ensures.value, ← w.steps.ensures.value, whole)
          (rw (← c.any_uses_message.ensures, w.if-any_uses_message.false, ← w.sends_use_message.ensures, ← w.value-is, c.if-sends_use_message.false)
          (rw (← c.finish.ensures.value) c.uses_message.ensures))
    ]
