use Rattle.task_words.proofs.Refusals.{is_simple_line, words_matched, words_taken, words_refused}
use Rattle.task_words.proofs.parsing.parsed.Goals as goal

pub returns-in-Ok-clause-taken : goal.returns-in-Ok-clause-taken
returns-in-Ok-clause-taken c = words_taken _ _ c.in_ok-command_line.ensures c.in-Ok.ensures.kinds

pub returns-in-Ok-clause-rows : goal.returns-in-Ok-clause-rows
returns-in-Ok-clause-rows c = words_matched _ _ _ c.in_ok-command_line.ensures c.in-Ok.ensures.matches

pub returns-in-Err-clause-refused : goal.returns-in-Err-clause-refused
returns-in-Err-clause-refused c =
    words_refused _ _ _ _ c.in_ok-command_line.ensures
    (c.in-Err.ensures.kinds (is_simple_line _ c.in_ok-command_line.ensures)) c.refusal.ensures
