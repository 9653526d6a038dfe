use Rattle.std.proofs.Common.{inr, arith}
use Rattle.win_index.proofs.series.end_before.Goals as goal

pub returns-then-gap-place-clause-clear : goal.returns-then-gap-place-clause-clear
returns-then-gap-place-clause-clear c = inr (omega arith)
