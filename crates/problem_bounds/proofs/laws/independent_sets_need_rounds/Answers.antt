use Rattle.problem_bounds.proofs.Colours.{independent_sets}
use Rattle.problem_bounds.proofs.laws.independent_sets_need_rounds.Goals as goal

pub returns : goal.returns
returns c = independent_sets c.windows_need_channels.ensures
