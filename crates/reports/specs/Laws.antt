-- The statements of the laws of this crate, one definition each.
use Rattle.std.specs.Prelude.{◌≡◌, ℕ, List, length, map}
use Rattle.std.specs.List.{range_with_len}
use Rattle.win_index.specs.Ring.{IsRing}
use Rattle.channel_tables.specs.Tables.{ChannelTable}
use Rattle.reports.specs.Report.{HasChannels, AreTableChannels}

-- a table has a channel at each place of each ring of its shape
abbrev pub TablesHaveChannels : Type 0
TablesHaveChannels =
    (t : ChannelTable) (ring : List ℕ) → IsRing t.ids t.rounds ring → (channel : ℕ → ℕ) × HasChannels t ring channel

-- a table has one list of channels on a ring: they are those that the table has there
abbrev pub OneListOfChannels : Type 0
OneListOfChannels =
    (t : ChannelTable) (ring channels : List ℕ) (channel : ℕ → ℕ) → AreTableChannels t ring channels
    → HasChannels t ring channel
    → channels ≡ map channel (range_with_len 0 (length ring))
