use Rattle.value_trees.proofs.Shown.{traces_shown}
use Rattle.value_trees.proofs.laws.explanations_show_traces.Goals as goal

pub returns : goal.returns
returns c = traces_shown
