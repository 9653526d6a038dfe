-- The statements of the laws of this crate, one definition each.
use Rattle.std.specs.Prelude.{◌≢◌, ℕ, ◌+◌, ◌*◌, ◌%◌, ◌<◌, ◌≤◌, ◌⊎◌, ◌≡◌, List, length, All}
use Rattle.win_index.specs.Arcs.{window_around}
use Rattle.win_index.specs.Ring.{IsRing}
use Rattle.win_index.specs.Windows.{IsWindow}
use Rattle.channel_tables.specs.Tables.{ChannelTable, windows_of}
use Rattle.channel_tables.specs.declared.separation.Separation.{Separation}
use Rattle.channel_tables.specs.Apart.{IsApartEverywhere}
use Rattle.lower_bound.specs.Towers.{tower, spread}

-- Each function from the windows of t rounds to channels below c, by which the channels of neighbours differ on every
-- ring of identifiers below m, has m at most the tower of height 2t over c. Neither m nor t has a limit here.
abbrev pub WindowsNeedChannels : Type 0
WindowsNeedChannels =
    (m t c : ℕ) (channel : List ℕ → ℕ) → ((window : List ℕ) → IsWindow (2 * t + 1) m window → channel window < c)
    → ((ring : List ℕ) (place : ℕ) → IsRing m t ring → place < length ring
    → channel (window_around ring t place) ≢ channel (window_around ring t (place + 1)))
    → m ≤ tower (2 * t) c

-- A table has a channel below their number for each window. Its numbers have no limits, unlike those of an IsTable.
pub record IsFull (t : ChannelTable) : Type 0 where
  pub size : length t.entries ≡ length (windows_of t)
  pub below : All (λ c. c < t.channels) t.entries

-- A table whose channels are apart everywhere has at most as many identifiers as the tower of height 2t over the number
-- of channels that are apart by near, if near is not 0. If far is not 0, only rings of 2t+3 nodes or more count, so
-- there must be as many identifiers.
abbrev pub TablesNeedChannels : Type 0
TablesNeedChannels =
    (t : ChannelTable) (s : Separation) → IsFull t → 1 ≤ s.near → (s.far ≡ 0) ⊎ (2 * t.rounds + 3 ≤ t.ids)
    → IsApartEverywhere t s
    → t.ids ≤ tower (2 * t.rounds) (spread t.channels s.near)

-- from 2t+3 identifiers on there is a ring of an odd number of nodes, for which two channels are too few
abbrev pub OddRingsNeedThree : Type 0
OddRingsNeedThree =
    (m t c : ℕ) (channel : List ℕ → ℕ) → 2 * t + 3 ≤ m
    → ((window : List ℕ) → IsWindow (2 * t + 1) m window → channel window < c)
    → ((ring : List ℕ) (place : ℕ) → IsRing m t ring → place < length ring
    → channel (window_around ring t place) ≢ channel (window_around ring t (place + 1)))
    → 3 ≤ c

-- so a table whose channels are apart everywhere has more channels than twice near
abbrev pub TablesNeedThree : Type 0
TablesNeedThree =
    (t : ChannelTable) (s : Separation) → IsFull t → 1 ≤ s.near → 2 * t.rounds + 3 ≤ t.ids → IsApartEverywhere t s
    → 2 * s.near < t.channels

-- on every ring of identifiers below m with 2t+3 nodes or more, the channels of neighbours differ, and those of
-- places at distance two
abbrev pub DifferNearby : ℕ → ℕ → (List ℕ → ℕ) → Type 0
DifferNearby m t channel =
    (ring : List ℕ) (place : ℕ) → IsRing m t ring → 2 * t + 3 ≤ length ring → place < length ring
    → let channel_at : ℕ → ℕ = λ step. channel (window_around ring t (place + step)) in
    (channel (window_around ring t place) ≢ channel_at 1) × (channel (window_around ring t place) ≢ channel_at 2)

-- such channels are four or more if a ring can have a number of nodes that is no multiple of three
abbrev pub RingsNeedFour : Type 0
RingsNeedFour =
    (m t c n : ℕ) (channel : List ℕ → ℕ) → 2 * t + 3 ≤ n → n ≤ m → n % 3 ≢ 0
    → ((window : List ℕ) → IsWindow (2 * t + 1) m window → channel window < c) → DifferNearby m t channel → 4 ≤ c

-- and five or more if a ring can have five nodes, of which each two are neighbours or at distance two
abbrev pub FiveNeedFive : Type 0
FiveNeedFive =
    (m t c : ℕ) (channel : List ℕ → ℕ) → t ≤ 1 → 5 ≤ m
    → ((window : List ℕ) → IsWindow (2 * t + 1) m window → channel window < c)
    → DifferNearby m t channel → 5 ≤ c

-- so a table whose channels are apart everywhere, with far above 0, has four or more
abbrev pub TablesNeedFour : Type 0
TablesNeedFour =
    (t : ChannelTable) (s : Separation) (n : ℕ) → IsFull t → 1 ≤ s.near → 1 ≤ s.far → 2 * t.rounds + 3 ≤ n
    → n ≤ t.ids → n % 3 ≢ 0
    → IsApartEverywhere t s → 4 ≤ t.channels

-- and of one round and five identifiers, or none and five, it has five or more
abbrev pub TablesNeedFive : Type 0
TablesNeedFive =
    (t : ChannelTable) (s : Separation) → IsFull t → 1 ≤ s.near → 1 ≤ s.far → t.rounds ≤ 1 → 5 ≤ t.ids
    → IsApartEverywhere t s → 5 ≤ t.channels
