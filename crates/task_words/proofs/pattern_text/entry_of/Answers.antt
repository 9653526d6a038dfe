use Rattle.std.proofs.Common.{rules}
use Rattle.task_words.proofs.Entries.{large}
use Rattle.task_words.proofs.pattern_text.entry_of.Goals as goal

-- digits that are no number have too large a value
pub returns-in-None-clause-bad : goal.returns-in-None-clause-bad
returns-in-None-clause-bad c = large c.args.part.now (search rules) (search rules) c.in-None.ensures
