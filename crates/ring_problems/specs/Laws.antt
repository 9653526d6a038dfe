-- The statements of the laws of this crate, one definition each.
use Rattle.std.specs.Prelude.{◌≡◌, ◌↔◌, ℕ, ◌+◌, ◌*◌, ◌<◌, ◌≤◌, List, length}
use Rattle.win_index.specs.Ring.{IsRing}
use Rattle.channel_tables.specs.Tables.{ChannelTable, IsTable}
use Rattle.channel_tables.specs.Apart.{IsApartEverywhere}
use Rattle.channel_tables.specs.Apart as apart
use Rattle.channel_tables.specs.declared.separation.Separation.{Separation}
use Rattle.ring_problems.specs.declared.pattern.Pattern.{Pattern}
use Rattle.ring_problems.specs.TupleLists.{IsTuple, ring_of}
use Rattle.ring_problems.specs.Problems.{IsBad, Breaks, IsSolved, IsSolvedEverywhere}
use Rattle.ring_problems.specs.Separations.{separation_problem}
use Rattle.ring_problems.specs.Witnesses.{IsWitness}

-- no tuple of a table is bad exactly if it solves the problem on every ring
abbrev pub TuplesSuffice : Type 0
TuplesSuffice = (t : ChannelTable) (problem : List Pattern) → IsSolved t problem ↔ IsSolvedEverywhere t problem

-- the ring of a bad tuple of a table of t rounds breaks the problem at place t
abbrev pub BadTuplesAreRings : Type 0
BadTuplesAreRings =
    (t : ChannelTable) (problem : List Pattern) (tuple : List ℕ) → IsTuple t.ids t.rounds problem tuple
    → IsBad t problem tuple
    → IsRing t.ids t.rounds (ring_of tuple) × Breaks t problem (ring_of tuple) t.rounds

-- a table has at most one witness
abbrev pub OneWitness : Type 0
OneWitness =
    (t : ChannelTable) (problem : List Pattern) (ring other : List ℕ) (i j : ℕ) (c d : ℕ × ℕ × ℕ) (p q : Pattern)
    → IsWitness t problem ring i c p → IsWitness t problem other j d q → (ring ≡ other) × (i ≡ j) × (c ≡ d) × (p ≡ q)

-- a table that solves a problem everywhere has none
abbrev pub SolvedTablesHaveNoWitness : Type 0
SolvedTablesHaveNoWitness =
    (t : ChannelTable) (problem : List Pattern) (ring : List ℕ) (place : ℕ) (channels : ℕ × ℕ × ℕ) (pattern : Pattern)
    → IsSolvedEverywhere t problem → IsWitness t problem ring place channels pattern → ⊥

-- the ring of a witness is a ring, which breaks the problem at the place
abbrev pub WitnessesAreOnRings : Type 0
WitnessesAreOnRings =
    (t : ChannelTable) (problem : List Pattern) (ring : List ℕ) (place : ℕ) (channels : ℕ × ℕ × ℕ) (pattern : Pattern)
    → IsWitness t problem ring place channels pattern
    → IsRing t.ids t.rounds ring × (place < length ring) × Breaks t problem ring place

-- a table keeps a separation exactly if no ring with as many nodes as the separation's tuples, or more, breaks the
-- problem of that separation, for as many channels as the table has or more
abbrev pub SeparationsAreProblems : Type 0
SeparationsAreProblems =
    (t : ChannelTable) (s : Separation) (channels : ℕ) → IsTable t → t.channels ≤ channels
    → IsApartEverywhere t s
    ↔ ((ring : List ℕ) (place : ℕ) → IsRing t.ids t.rounds ring → 2 * t.rounds + 1 + apart.extra s ≤ length ring
    → place < length ring
    → ¬ Breaks t (separation_problem channels s) ring place)

-- so with far 0 it keeps it exactly if it solves that problem
abbrev pub NearIsProblem : Type 0
NearIsProblem =
    (t : ChannelTable) (s : Separation) (channels : ℕ) → IsTable t → t.channels ≤ channels → s.far ≡ 0
    → IsApartEverywhere t s ↔ IsSolvedEverywhere t (separation_problem channels s)
