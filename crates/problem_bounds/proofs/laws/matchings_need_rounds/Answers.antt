use Rattle.problem_bounds.proofs.Colours.{matchings}
use Rattle.problem_bounds.proofs.laws.matchings_need_rounds.Goals as goal

pub returns : goal.returns
returns c = matchings c.windows_need_channels.ensures
