-- The notes on a no of the judge, and on a yes about no ring.
use Rattle.std.specs.Prelude.{ℕ, ◌+◌, ◌<◌, ◌≤◌, ◌==◌, ◌++◌, List, length, slice_index, codes, if◌then◌else◌}
use Rattle.std.specs.Fmt.{decimal}
use Rattle.win_index.specs.Arcs.{window_around}
use Rattle.source_text.specs.Lists.{joined}
use Rattle.win_index.specs.declared.limits.TheConstants.{MAX_IDS, MAX_ROUNDS}

-- whether the two places are neighbours
abbrev pub distance_text : ℕ × ℕ → List ℕ
distance_text places =
    if places.1 == places.0 + 1 then codes " the neighbours " else codes " the nodes at distance two "

-- the nodes at the two places
abbrev pub pair_text : List ℕ → ℕ × ℕ → List ℕ
pair_text ring places = decimal (slice_index ring places.0) ++ (codes " and " ++ (decimal (slice_index ring places.1)
    ++ (codes " (places " ++ (decimal places.0 ++ (codes " and " ++ (decimal places.1 ++ codes ") have "))))))

abbrev pub channels_text : ℕ × ℕ → List ℕ
channels_text channels = if channels.0 == channels.1 then codes "channel " ++ decimal channels.0
    else codes "channels " ++ (decimal channels.0 ++ (codes " and " ++ decimal channels.1))

-- the windows of the two places, of as many rounds as the first place has nodes before it
abbrev pub windows_text : List ℕ → ℕ × ℕ → List ℕ
windows_text ring places =
    codes "; their windows are "
    ++ (joined (codes " ") (window_around ring places.0 places.0)
    ++ (codes " and " ++ (joined (codes " ") (window_around ring places.0 places.1) ++ codes "\n")))

-- the places are two of a ring's; the first one is t for t rounds
pub record HasPlaces (ring : List ℕ) (places : ℕ × ℕ) : Type 0 where
  pub few_rounds : places.0 ≤ MAX_ROUNDS
  pub long : places.0 ≤ length ring
  pub short : length ring ≤ MAX_IDS
  pub first : places.0 < length ring
  pub second : places.1 < length ring

-- the note that on this ring the nodes at two places have these channels; the first place is t for t rounds
abbrev pub verdict_note : List ℕ → ℕ × ℕ → ℕ × ℕ → List ℕ
verdict_note ring places channels =
    codes "nbhd: on the ring "
    ++ (joined (codes ",") ring
    ++ (distance_text places ++ (pair_text ring places ++ (channels_text channels ++ windows_text ring places))))

-- the note on a yes about no ring: so many identifiers are too few for a ring of so many nodes, the least that is
-- judged
abbrev pub no_tuples_note : (nodes ids : ℕ) → List ℕ
no_tuples_note nodes ids = codes "nbhd: no ring was judged: " ++ (decimal ids
    ++ (codes " identifiers are too few for a ring of at least " ++ (decimal nodes ++ codes " nodes\n")))
