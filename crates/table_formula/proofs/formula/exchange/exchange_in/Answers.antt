use Rattle.std.proofs.Common.{map, arith}
use Rattle.table_formula.specs.Exchanges.{exchanged}
use Rattle.table_formula.proofs.Mapped.{mapped_more}
use Rattle.table_formula.proofs.formula.exchange.exchange_in.Goals as goal

pub loop-id-preserved : goal.loop-id-preserved
loop-id-preserved c =
    mapped_more (exchanged c.args.first c.args.second) c.loop-id.window
    (map (exchanged c.args.first c.args.second) c.args.window.now) c.loop-id.id-index c.other_of.result
    (let lt = c.loop-id-test.true in omega (arith, lt, c.loop-id.auto.window)) c.other_of.ensures c.loop-id.invariant
