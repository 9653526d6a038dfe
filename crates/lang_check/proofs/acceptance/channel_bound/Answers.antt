use Rattle.std.proofs.Common.{rules}
use Rattle.lang_check.proofs.acceptance.channel_bound.Goals as goal

pub returns-then-bound-channels-clause-err : goal.returns-then-bound-channels-clause-err
returns-then-bound-channels-clause-err c = search rules fits 100
