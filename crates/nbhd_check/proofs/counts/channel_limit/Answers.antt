use Rattle.std.proofs.Common.{arith}
use Rattle.std.proofs.lemmas.List.{get_or_default}
use Rattle.nbhd_check.proofs.counts.channel_limit.Goals as goal

pub returns-clause-limit : goal.returns-clause-limit
returns-clause-limit c = λ k d lt.
    let table = c.window_count-number-end.ensures in
    rw (get_or_default c.args.table.now.entries k d 0 lt)
    (c.loop-number.invariant.0 k (omega (arith, lt, table.value, table.table.size, c.loop-number-test.false)))
