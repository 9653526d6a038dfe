-- Other channels for those of patterns. No public contract cites this file.
use Rattle.std.specs.Prelude.{ℕ}
use Rattle.table_formula.specs.Exchanges.{exchanged, mirrored}
use Rattle.table_formula.specs.declared.formula.pattern_exchange.ChannelMap.{ChannelMap}
use Rattle.table_formula.specs.declared.formula.pattern_exchange.ChannelMap.TheVariants.{Exchange, Mirror}

-- the channel for another one
abbrev pub other_channel : ChannelMap → ℕ → ℕ
other_channel (Exchange first second) = exchanged first second
other_channel (Mirror channels) = mirrored channels
