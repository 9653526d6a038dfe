use Rattle.std.proofs.Common.{inr, refl}
use Rattle.task_words.proofs.options.unknown_format.Goals as goal

pub returns-in-Ok : goal.returns-in-Ok
returns-in-Ok c = inr (c.in-Ok.text, refl, c.in-Ok.ensures.ok)
