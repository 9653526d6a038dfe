use Rattle.table_formula.proofs.Sound.{sound}
use Rattle.table_formula.proofs.refutation.laws.refutations_are_sound.Goals as goal

pub returns : goal.returns
returns c = sound c.solutions_satisfy.ensures c.steps_are_sound.ensures c.exchanges_keep_solutions.ensures
