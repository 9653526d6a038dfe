use Rattle.std.proofs.Common.{◌≡◌, drop}
use Rattle.std.specs.List.{list_all, list_any}
use Rattle.table_formula.specs.ChannelMaps.{other_channel}
use Rattle.table_formula.specs.Exchanges.{is_same_pattern, map_to_themselves, pattern_by}
use Rattle.table_formula.proofs.formula.pattern_exchange.ChannelMap.keeps.Given as goal

-- what is left maps to the patterns exactly if all do
abbrev pub invariant-loop-pattern : goal.invariant-loop-pattern
invariant-loop-pattern l =
    list_all (λ p. list_any (is_same_pattern (pattern_by (other_channel l.self) p)) l.patterns)
    (drop l.pattern-index l.patterns)
    ≡ map_to_themselves (other_channel l.self) l.patterns
