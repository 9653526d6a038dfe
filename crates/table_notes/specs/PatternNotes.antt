-- The notes on a no of the judge to a problem, and on patterns that never match.
use Rattle.std.specs.Prelude.{ℕ, ◌+◌, ◌%◌, ◌==◌, ◌&&◌, ◌++◌, List, [], ◌∷◌, Option, Some, None, length, slice_index}
use Rattle.std.specs.Prelude.{codes, if◌then◌else◌}
use Rattle.std.specs.Fmt.{decimal}
use Rattle.source_text.specs.Lists.{joined}
use Rattle.ring_problems.specs.declared.idle.IdlePattern.{IdlePattern}
use Rattle.ring_problems.specs.declared.known.KnownProblem.{KnownProblem}
use Rattle.ring_problems.specs.declared.known.KnownProblem.TheVariants.{IndependentSet, Matching, WeakColouring}
use Rattle.ring_problems.specs.declared.pattern.Pattern.{Pattern}
use Rattle.ring_problems.specs.Patterns.{has_third}
use Rattle.ring_problems.specs.PatternTexts.{patterns_text}

-- the node so many places after this one, around the ring
abbrev pub node_after : List ℕ → ℕ → ℕ → ℕ
node_after ring place step = slice_index ring ((place + step) % length ring)

abbrev pub node_text : List ℕ → ℕ → ℕ → List ℕ
node_text ring place step = codes "node " ++ decimal (node_after ring place step)

-- what is wrong with an independent set at a node: neither it nor a neighbour is in the set, or it is and its right
-- neighbour too
abbrev pub set_words : Pattern → ℕ × List ℕ
set_words pattern =
    if has_third pattern then (1, codes " is not in the set, and neither is a neighbour")
    else (0, codes " is in the set, and so is its right neighbour")

-- what is wrong with a matching at a node, by two channels in a row
abbrev pub matching_words : ℕ → ℕ → List ℕ
matching_words first second =
    if second == 2 then (if first == 2 then codes " is matched to the left, and so is its left neighbour"
    else codes " is matched to the left, but its left neighbour is single")
    else if first == 0 then codes " is single, and so is its right neighbour"
    else if second == 0 then codes " is matched to the right, but its right neighbour is single"
    else codes " is matched to the right, and so is its right neighbour"

-- how many places after the first one the node is with which something is wrong, and what
abbrev pub known_words : KnownProblem → ℕ × ℕ × ℕ → Pattern → ℕ × List ℕ
known_words IndependentSet channels pattern = set_words pattern
known_words Matching channels pattern = (if channels.1 == 2 then 1 else 0, matching_words channels.0 channels.1)
known_words WeakColouring channels pattern = (1, codes " and both its neighbours have the same channel")

-- a node and its right neighbour with their channels
abbrev pub pair_words : ℕ → ℕ → List ℕ
pair_words first second =
    if first == second then codes " and its right neighbour have channel " ++ decimal first
    else codes " has channel " ++ (decimal first ++ (codes ", and its right neighbour " ++ decimal second))

-- a node and both its neighbours with their channels
abbrev pub row_words : ℕ × ℕ × ℕ → List ℕ
row_words channels =
    if (channels.0 == channels.1) && (channels.1 == channels.2)
    then codes " and both its neighbours have channel " ++ decimal channels.1
    else codes " has channel " ++ (decimal channels.1 ++ (codes ", its left neighbour " ++ (decimal channels.0
    ++ (codes " and its right neighbour " ++ decimal channels.2))))

-- which pattern is forbidden, and the nodes that it matches
abbrev pub pattern_words : List ℕ → ℕ → ℕ × ℕ × ℕ → Pattern → List ℕ
pattern_words ring place channels pattern =
    codes " the pattern" ++ (patterns_text (pattern ∷ []) ++ (codes " is forbidden: "
    ++ (if has_third pattern then node_text ring place 1 ++ row_words channels
    else node_text ring place 0 ++ pair_words channels.0 channels.1)))

-- what is wrong on a ring
abbrev pub wrong_text : List ℕ → ℕ → ℕ × ℕ × ℕ → Pattern → Option KnownProblem → List ℕ
wrong_text ring place channels pattern None = pattern_words ring place channels pattern
wrong_text ring place channels pattern (Some known) =
    codes " " ++ (node_text ring place (known_words known channels pattern).0 ++ (known_words known channels pattern).1)

-- the note on a pattern that never matches
abbrev pub idle_note : IdlePattern → List ℕ
idle_note idle =
    codes "nbhd: the pattern" ++ (patterns_text (idle.pattern ∷ []) ++ (codes " never matches: all channels are below "
    ++ (decimal idle.channels ++ codes "\n")))

-- that note, if there is such a pattern
abbrev pub idle_text : Option IdlePattern → List ℕ
idle_text None = []
idle_text (Some idle) = idle_note idle

-- the note on a no to a problem: what is wrong on this ring, and a pattern that never matches
abbrev pub broken_note : List ℕ → ℕ → ℕ × ℕ × ℕ → Pattern → Option KnownProblem → Option IdlePattern → List ℕ
broken_note ring place channels pattern known idle =
    codes "nbhd: on the ring "
    ++ (joined (codes ",") ring ++ (wrong_text ring place channels pattern known ++ (codes "\n" ++ idle_text idle)))
