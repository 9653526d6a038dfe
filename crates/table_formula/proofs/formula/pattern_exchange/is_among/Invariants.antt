use Rattle.std.proofs.Common.{◌≡◌, drop}
use Rattle.std.specs.List.{list_any}
use Rattle.table_formula.specs.Exchanges.{is_same_pattern}
use Rattle.table_formula.proofs.formula.pattern_exchange.is_among.Given as goal

-- what is left has the pattern exactly if the list does
abbrev pub invariant-loop-other : goal.invariant-loop-other
invariant-loop-other l =
    list_any (is_same_pattern l.pattern) (drop l.other-index l.patterns)
    ≡ list_any (is_same_pattern l.pattern) l.patterns
