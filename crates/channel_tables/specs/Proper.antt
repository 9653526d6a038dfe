-- Proper tables: the neighbourhood graph joins the first and the last window of each tuple (Linial 1992).
use Rattle.std.specs.Prelude.{◌≢◌, ℕ, ◌+◌, ◌*◌, ◌<◌, List, length, All}
use Rattle.win_index.specs.Ring.{IsRing}
use Rattle.win_index.specs.Arcs.{window_around, part_at}
use Rattle.win_index.specs.Windows.{windows}
use Rattle.channel_tables.specs.Tables.{ChannelTable, channel_of}

-- for each list of `2t+2` distinct identifiers, the channels of the first and the last window differ
abbrev pub IsProper : ChannelTable → Type 0
IsProper t =
    All (λ tuple. channel_of t (part_at t.rounds 0 tuple) ≢ channel_of t (part_at t.rounds 1 tuple))
    (windows (2 * t.rounds + 2) t.ids)

-- on each ring the channels of neighbours differ
abbrev pub IsGoodEverywhere : ChannelTable → Type 0
IsGoodEverywhere t =
    (ring : List ℕ) (place : ℕ) → IsRing t.ids t.rounds ring → place < length ring
    → channel_of t (window_around ring t.rounds place) ≢ channel_of t (window_around ring t.rounds (place + 1))
