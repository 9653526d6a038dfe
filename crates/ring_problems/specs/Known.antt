-- The problems that courses on local algorithms have.
use Rattle.std.specs.Prelude.{ℕ, List, [], ◌∷◌}
use Rattle.ring_problems.specs.declared.known.KnownProblem.{KnownProblem}
use Rattle.ring_problems.specs.declared.known.KnownProblem.TheVariants.{IndependentSet, Matching, WeakColouring}
use Rattle.ring_problems.specs.declared.pattern.Entry.TheVariants.{Channel}
use Rattle.ring_problems.specs.declared.pattern.Pattern.{Pattern}
use Rattle.ring_problems.specs.Separations.{next_to}

-- three channels in a row
abbrev pub in_row : ℕ → ℕ → ℕ → Pattern
in_row first second third = record { first = Channel first; second = Channel second; third = Channel third }

-- a maximal independent set: 1 in the set, 0 not. Of three places in a row one is in it, and no two neighbours are
abbrev pub independent_set : List Pattern
independent_set = in_row 0 0 0 ∷ next_to 1 1 ∷ []

-- a maximal matching: 1 matched to the right neighbour, 2 to the left one, 0 to none. No two neighbours have 0,
-- after 1 comes 2, and before 2 comes 1
abbrev pub matching : List Pattern
matching = next_to 0 0 ∷ next_to 1 0 ∷ next_to 1 1 ∷ next_to 0 2 ∷ next_to 2 2 ∷ []

-- a weak colouring with two channels: no three places in a row have the same
abbrev pub weak_colouring : List Pattern
weak_colouring = in_row 0 0 0 ∷ in_row 1 1 1 ∷ []

-- the forbidden patterns of a problem of a course
abbrev pub known_patterns : KnownProblem → List Pattern
known_patterns IndependentSet = independent_set
known_patterns Matching = matching
known_patterns WeakColouring = weak_colouring
