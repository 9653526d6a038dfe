use Rattle.std.proofs.Common.{rules}
use Rattle.win_index.proofs.shape.Shape.new.Goals as goal

pub returns-then-ids-rounds-clause-exact : goal.returns-then-ids-rounds-clause-exact
returns-then-ids-rounds-clause-exact c = search rules fits 100

pub returns-then-ids-rounds-clause-err : goal.returns-then-ids-rounds-clause-err
returns-then-ids-rounds-clause-err c = search rules fits 100
