-- The statements of the laws of this crate, one definition each.
use Rattle.std.specs.Prelude.{◌≡◌, ◌↔◌, ℕ, ◌+◌, ◌*◌, ◌<◌, ◌≤◌, List, Some, length}
use Rattle.std.specs.Int.{abs_diff}
use Rattle.node_program.specs.GlobalRounds.{right_of}
use Rattle.win_index.specs.Arcs.{window_around}
use Rattle.win_index.specs.Ring.{IsRing}
use Rattle.channel_tables.specs.Tables.{ChannelTable, channel_of}
use Rattle.node_program.specs.Term.{ProgramTree}
use Rattle.table_fill.specs.ProgramTables.{table_of}
use Rattle.channel_tables.specs.declared.separation.Separation.{Separation}
use Rattle.channel_tables.specs.Apart.{extra, IsApartEverywhere}
use Rattle.ring_problems.specs.declared.pattern.Pattern.{Pattern}
use Rattle.ring_problems.specs.Problems.{IsSolvedEverywhere}
use Rattle.headline.specs.Headline.{ChannelsAreApart, ChannelsSolve}

-- the table of a program keeps a separation on every ring if and only if the channels of global rounds do
abbrev pub ProgramTablesAreApart : Type 0
ProgramTablesAreApart = (p : ProgramTree) (m : ℕ) (s : Separation) → IsApartEverywhere (table_of p m) s
    ↔ ChannelsAreApart p m s

-- the table of a program solves a problem on every ring if and only if the channels of global rounds do
abbrev pub ProgramTablesSolve : Type 0
ProgramTablesSolve =
    (p : ProgramTree) (m : ℕ) (problem : List Pattern) → IsSolvedEverywhere (table_of p m) problem
    ↔ ChannelsSolve p m problem

-- if a table keeps a separation on every ring, its channels on a ring with at least as many nodes as a tuple are as far
-- apart
abbrev pub TablesAreApartOnRings : Type 0
TablesAreApartOnRings =
    (t : ChannelTable) (s : Separation) (ring : List ℕ) (channel : ℕ → ℕ) → IsApartEverywhere t s
    → IsRing t.ids t.rounds ring → 2 * t.rounds + 1 + extra s ≤ length ring
    → ((place : ℕ) → place < length ring → channel_of t (window_around ring t.rounds place) ≡ Some (channel place))
    → (place : ℕ) → place < length ring
    → (s.near ≤ abs_diff (channel place) (channel (right_of ring place)))
    × (s.far ≤ abs_diff (channel place) (channel (right_of ring (right_of ring place))))
