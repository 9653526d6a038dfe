-- The statements of the laws of this crate, one definition each.
use Rattle.std.specs.Prelude.{◌≡◌, ◌↔◌, ℕ, ◌+◌, ◌*◌, ◌<◌, ◌≤◌, ◌⊎◌, Option, List, length}
use Rattle.win_index.specs.Ring.{IsRing}
use Rattle.win_index.specs.Arcs.{window_around}
use Rattle.win_index.specs.Windows.{IsWindow}
use Rattle.channel_tables.specs.Tables.{ChannelTable, channel_of}
use Rattle.channel_tables.specs.declared.separation.Separation.{Separation}
use Rattle.channel_tables.specs.Apart.{extra, AreClose, IsBad, IsApart, IsApartEverywhere}
use Rattle.channel_tables.specs.Proper.{IsProper, IsGoodEverywhere}
use Rattle.channel_tables.specs.Witnesses.{IsWitness}

-- the tuples of a table are apart exactly if its channels are apart on every ring
abbrev pub TuplesSuffice : Type 0
TuplesSuffice = (t : ChannelTable) (s : Separation) → IsApart t s ↔ IsApartEverywhere t s

-- a bad tuple of a table of t rounds, taken as a ring, breaks the separation at the places t and t+1, or t and t+2
abbrev pub BadTuplesAreRings : Type 0
BadTuplesAreRings =
    (table : ChannelTable) (s : Separation) (tuple : List ℕ) → IsWindow (2 * table.rounds + 1 + extra s) table.ids tuple
    → IsBad table s tuple
    → let t = table.rounds in
    let channel_at : ℕ → Option ℕ = λ place. channel_of table (window_around tuple t place) in
    IsRing table.ids t tuple
    × (AreClose s.near (channel_at t) (channel_at (t + 1)) ⊎ AreClose s.far (channel_at t) (channel_at (t + 2)))

-- with near 1 and far 0 the tuples of a table are apart exactly if it is proper
abbrev pub OneApartIsProper : Type 0
OneApartIsProper = (t : ChannelTable) → IsApart t (record { near = 1; far = 0 }) ↔ IsProper t

-- and its channels are apart on every ring exactly if those of neighbours differ on every ring
abbrev pub OneApartIsGood : Type 0
OneApartIsGood = (t : ChannelTable) → IsApartEverywhere t (record { near = 1; far = 0 }) ↔ IsGoodEverywhere t

-- a table has at most one witness
abbrev pub OneWitness : Type 0
OneWitness =
    (t : ChannelTable) (s : Separation) (ring other : List ℕ) (i j c d : ℕ × ℕ) → IsWitness t s ring i c
    → IsWitness t s other j d
    → (ring ≡ other) × (i ≡ j) × (c ≡ d)

-- a table whose channels are apart everywhere has none
abbrev pub ApartTablesHaveNoWitness : Type 0
ApartTablesHaveNoWitness =
    (t : ChannelTable) (s : Separation) (ring : List ℕ) (places channels : ℕ × ℕ) → IsApartEverywhere t s
    → IsWitness t s ring places channels → ⊥

-- the ring of a witness is a ring, and has both places
abbrev pub WitnessesAreOnRings : Type 0
WitnessesAreOnRings =
    (t : ChannelTable) (s : Separation) (ring : List ℕ) (places channels : ℕ × ℕ) → IsWitness t s ring places channels
    → IsRing t.ids t.rounds ring × (places.0 < length ring) × (places.1 < length ring)

-- channels that are apart everywhere by a separation are so by each smaller one. If far becomes 0, shorter rings count
-- too, so there must be identifiers for one node more
abbrev pub LessIsApart : Type 0
LessIsApart =
    (t : ChannelTable) (s less : Separation) → less.near ≤ s.near → less.far ≤ s.far
    → (extra less ≡ extra s) ⊎ (2 * t.rounds + 3 ≤ t.ids) → IsApartEverywhere t s → IsApartEverywhere t less
