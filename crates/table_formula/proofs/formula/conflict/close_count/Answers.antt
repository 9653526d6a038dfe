use Rattle.std.proofs.Common.{arith}
use Rattle.table_formula.proofs.CloseChannels.{close_length}
use Rattle.table_formula.proofs.formula.conflict.close_count.Goals as goal

pub returns-clause-value : goal.returns-clause-value
returns-clause-value c = λ step.
    omega (
      arith,
      c.saturating_sub.ensures,
      c.close_end.ensures,
      c.close_start.ensures,
      close_length c.args.channels step c.args.distance c.args.first,
    )
