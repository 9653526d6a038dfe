-- The headline: the table, the run by messages and global rounds give each place the same channel, and the judge tells
-- whether channels are far enough apart on every ring (Linial 1992; Griggs and Yeh 1992).
use Rattle.std.specs.Prelude.{◌≡◌, ◌↔◌, ℕ, ◌+◌, ◌*◌, ◌<◌, ◌≤◌, List, length, slice_get, Option, Some}
use Rattle.std.specs.Int.{abs_diff}
use Rattle.node_program.specs.Term.{ProgramTree}
use Rattle.node_program.specs.GlobalRounds.{right_of, channel_at}
use Rattle.win_index.specs.Ring.{IsRing}
use Rattle.win_index.specs.Arcs.{window_around}
use Rattle.channel_tables.specs.Tables.{ChannelTable, channel_of}
use Rattle.channel_tables.specs.declared.separation.Separation.{Separation}
use Rattle.channel_tables.specs.Apart.{extra}
use Rattle.ring_problems.specs.declared.pattern.Pattern.{Pattern}
use Rattle.ring_problems.specs.Patterns.{IsForbidden}
use Rattle.nbhd_check.specs.Verdicts.{IsVerdict}
use Rattle.nbhd_check.specs.declared.verdict.Verdict.{Verdict}
use Rattle.nbhd_check.specs.declared.verdict.Verdict.TheVariants.{Yes}

-- on every ring of 2t+2 to m distinct identifiers below m, the table's channel at the window of each place is the
-- channel of that place after the t rounds of the program p
abbrev pub TableAgrees : ProgramTree → ℕ → ChannelTable → Type 0
TableAgrees p m table =
    (ring : List ℕ) (place : ℕ) → IsRing m (length p.steps) ring → place < length ring
    → channel_of table (window_around ring (length p.steps) place) ≡ Some (channel_at p ring place)

-- the channels are those of all places of the ring after all rounds
pub record RunAgrees (p : ProgramTree) (ring channels : List ℕ) : Type 0 where
  pub size : length channels ≡ length ring
  pub at : (place : ℕ) → place < length ring → slice_get channels place ≡ Some (channel_at p ring place)

-- on every such ring, of 2t+3 and more nodes where far is not 0, channels differ by at least near at neighbours, and by
-- at least far at distance two
abbrev pub ChannelsAreApart : ProgramTree → ℕ → Separation → Type 0
ChannelsAreApart p m s =
    (ring : List ℕ) (place : ℕ) → IsRing m (length p.steps) ring → 2 * length p.steps + 1 + extra s ≤ length ring
    → place < length ring
    → (s.near ≤ abs_diff (channel_at p ring place) (channel_at p ring (right_of ring place)))
    × (s.far ≤ abs_diff (channel_at p ring place) (channel_at p ring (right_of ring (right_of ring place))))

-- on every such ring no pattern matches the channels of a place, of its right neighbour and of the right neighbour
-- of that one
abbrev pub ChannelsSolve : ProgramTree → ℕ → List Pattern → Type 0
ChannelsSolve p m problem =
    (ring : List ℕ) (place : ℕ) → IsRing m (length p.steps) ring → place < length ring
    → let channel : ℕ → Option ℕ = λ i. Some (channel_at p ring i) in
    ¬ IsForbidden problem (channel place) (channel (right_of ring place))
    (channel (right_of ring (right_of ring place)))

-- the table and the run agree with global rounds, and the judge says yes exactly if channels are apart; its no is the
-- least bad tuple
pub record IsHeadline (p : ProgramTree) (m : ℕ) (s : Separation) (ring channels : List ℕ) (table : ChannelTable)
    (verdict : Verdict) : Type 0 where
  pub table_agrees : TableAgrees p m table
  pub run_agrees : RunAgrees p ring channels
  pub yes : (verdict ≡ Yes) ↔ ChannelsAreApart p m s
  pub verdict_is : IsVerdict table s verdict
