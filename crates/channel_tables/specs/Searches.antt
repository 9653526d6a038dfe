-- The result of a search for the least bad tuple.
use Rattle.std.specs.Prelude.{ℕ, ◌<◌, List, length, Option, MatchOption}
use Rattle.channel_tables.specs.Tables.{ChannelTable}
use Rattle.channel_tables.specs.declared.separation.Separation.{Separation}
use Rattle.channel_tables.specs.Apart.{tuples, NoneIsBad, IsLeastBad}

-- the result is the least number of a bad tuple from low on and below high, or None if none of these is bad
abbrev pub IsLeastIn : ChannelTable → Separation → ℕ → ℕ → Option ℕ → Type 0
IsLeastIn t s low high found =
    MatchOption found (NoneIsBad t s low high) (λ n. (n < high) × ((tuple : List ℕ) × IsLeastBad t s low n tuple))

-- the result is the least number of a bad tuple, or None if no tuple is bad
abbrev pub IsLeastOfAll : ChannelTable → Separation → Option ℕ → Type 0
IsLeastOfAll t s found = IsLeastIn t s 0 (length (tuples t s)) found
