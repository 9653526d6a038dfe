use Rattle.std.proofs.Common.{rules}
use Rattle.win_index.proofs.Positions.{number_of_is}
use Rattle.win_index.proofs.shape.Shape.window_number.Goals as goal

pub returns-clause-item : goal.returns-clause-item
returns-clause-item c = search rules

pub returns-clause-number : goal.returns-clause-number
returns-clause-number c = number_of_is _ _ _ c.args.window.now (returns-clause-item c)
