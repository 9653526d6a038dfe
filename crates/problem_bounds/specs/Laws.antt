-- The statements of the laws of this crate, one definition each.
use Rattle.std.specs.Prelude.{◌+◌, ◌*◌, ◌≤◌}
use Rattle.channel_tables.specs.Tables.{ChannelTable}
use Rattle.lower_bound.specs.Laws.{IsFull}
use Rattle.lower_bound.specs.Towers.{tower}
use Rattle.ring_problems.specs.Problems.{IsSolvedEverywhere}
use Rattle.ring_problems.specs.Known.{independent_set, matching}

-- a table of t rounds, of any size, with a maximal independent set on every ring has at most as many identifiers as
-- the tower of height 2t+2 over 3: one more round makes three colours of the set
abbrev pub IndependentSetsNeedRounds : Type 0
IndependentSetsNeedRounds =
    (t : ChannelTable) → IsFull t → t.channels ≤ 2 → IsSolvedEverywhere t independent_set
    → t.ids ≤ tower (2 * (t.rounds + 1)) 3

-- a table of t rounds with a maximal matching on every ring has at most as many as the tower of height 2t over 3: its
-- channels are three colours
abbrev pub MatchingsNeedRounds : Type 0
MatchingsNeedRounds =
    (t : ChannelTable) → IsFull t → t.channels ≤ 3 → IsSolvedEverywhere t matching → t.ids ≤ tower (2 * t.rounds) 3
