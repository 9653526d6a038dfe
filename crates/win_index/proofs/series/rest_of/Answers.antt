use Rattle.std.proofs.Common.{rules}
use Rattle.win_index.proofs.Unused.{distinct_take, distinct_drop}
use Rattle.win_index.proofs.series.rest_of.Goals as goal

pub returns-clause-distinct : goal.returns-clause-distinct
returns-clause-distinct c = search (rules, distinct_take, distinct_drop)
