use Rattle.std.proofs.Common.{◌≡◌, take, map}
use Rattle.std.specs.List.{range_with_len}
use Rattle.table_formula.specs.Formula.{has_channel}
use Rattle.table_formula.proofs.formula.Formula.write_some_channel.Given as goal

abbrev pub invariant-loop-channel : goal.invariant-loop-channel
invariant-loop-channel l = take l.channel l.out ≡ map (has_channel l.self l.window) (range_with_len 0 l.channel)
