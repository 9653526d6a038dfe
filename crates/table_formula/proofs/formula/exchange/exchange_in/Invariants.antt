use Rattle.std.proofs.Common.{◌≡◌, ◌++◌, map, take, drop}
use Rattle.table_formula.specs.Exchanges.{exchanged}
use Rattle.table_formula.proofs.formula.exchange.exchange_in.Given as goal

abbrev pub invariant-loop-id : goal.invariant-loop-id
invariant-loop-id l =
    take l.id-index l.window ++ map (exchanged l.first l.second) (drop l.id-index l.window)
    ≡ map (exchanged l.first l.second) l.fn.window
